-- Session IDs, and the open files of clients (RFC 8881, sections 2.10.3 and 9.1).
use Rattle.std.specs.Prelude.{ℕ, ◌++◌, ◌==◌, Bool, not, if◌then◌else◌, List, filter, take, drop, replicate, Option}
use Rattle.std.specs.Prelude.{Some, None, Result, Ok, Err}
use Rattle.std.specs.Int.{w64, from_be_bytes, to_be_bytes}
use Rattle.std.specs.List.{list_any}
use Rattle.xdr_wire.specs.Reading.{are_zero}
use Rattle.nfs_types.specs.declared.status.Status.{Status}
use Rattle.nfs_ops.specs.Results.{Outcome}
use Rattle.session_slots.specs.Registry.{Registry}
use Rattle.compound_run.specs.Realm.{Realm, Opened}

-- The session of an ID: eight zero bytes and its number. Any other ID is that of session 0, which never exists.
abbrev pub session_of : List ℕ → ℕ
session_of id = if are_zero (take 8 id) then from_be_bytes w64 (drop 8 id) else 0

-- the ID of a session
abbrev pub session_id : ℕ → List ℕ
session_id number = replicate 8 0 ++ to_be_bytes w64 number

-- the realm with other clients and sessions
abbrev pub with_registry : Registry → Realm → Realm
with_registry registry r = record r { registry = registry }

-- a client has files open
abbrev pub has_opens : ℕ → List Opened → Bool
has_opens client opens = list_any (λ o. o.client == client) opens

-- the opens that remain when a client is removed, if one is
abbrev pub opens_without : Option ℕ → List Opened → List Opened
opens_without None opens = opens
opens_without (Some client) opens = filter (λ o. not (o.client == client)) opens

-- the outcome for an answer: its result, or its status
abbrev pub outcome_from : {A : Type 0} → (A → Outcome) → Result A Status → Result Outcome Status
outcome_from gives (Ok value) = Ok (gives value)
outcome_from gives (Err status) = Err status
