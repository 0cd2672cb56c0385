-- open: a client is registered, and gets a session of one slot. end: session and client are destroyed.
use Rattle.std.specs.Prelude.{◌≡◌, ◌⊎◌, ◌<◌, ◌≤◌, ℕ, false, List, [], ◌∷◌, length, Option, Some, None}
use Rattle.std.specs.Prelude.{option_and_then, Result, Ok, Err}
use Rattle.std.proofs.Common.{inl}
use Rattle.xdr_wire.specs.Xdr.{Value}
use Rattle.nfs_ops.specs.Forms.{channel}
use Rattle.nfs_ops.specs.Operations.{Operation, Known}
use Rattle.nfs_ops.specs.Results.{Outcome, Done}
use Rattle.nfs_ops.specs.declared.OpKind.TheVariants as kinds
use Rattle.nfs_client.specs.Talking.{Talking}
use Rattle.nfs_client.specs.Taking.{last_of, taking, no_value}
use Rattle.nfs_client.specs.Commands.{AskGives, outside_session, Breaks}
use Rattle.nfs_client.specs.declared.client.Client.{Client}
use Rattle.nfs_client.specs.declared.sessions.Registration.{Registration}
use Rattle.nfs_client.specs.declared.fault.ToolFault.{ToolFault}
use Rattle.nfs_client.specs.declared.fault.ToolFault.TheVariants.{Failed, TooLarge}

-- ---- operations

-- a client's owner by its ID, and the verifier of one start of it (client_owner4: RFC 8881, section 2.4)
pub record ClientOwner : Type 0 where
  pub id : List ℕ
  pub verifier : List ℕ

-- EXCHANGE_ID of this owner at this start, without flags, without state protection, without an implementation ID
abbrev pub exchange_id : ClientOwner → Operation
exchange_id owner = Known kinds.ExchangeId (owner.verifier, (owner.id, (0, (inl tt, []))))

-- Calls and replies of 65,536 bytes, 16 operations, one slot.
abbrev pub fore : Value channel
fore = (0, (65536, (65536, (65536, (16, (1, []))))))

-- Callbacks aren't served.
abbrev pub back : Value channel
back = (0, (4096, (4096, (0, (2, (1, []))))))

-- CREATE_SESSION of this client by this sequence ID, without flags and without callbacks
abbrev pub create_session : ℕ → ℕ → Operation
create_session client number = Known kinds.CreateSession (client, (number, (0, (fore, (back, (0, []))))))

abbrev pub destroy_session : List ℕ → Operation
destroy_session session = Known kinds.DestroySession session

abbrev pub destroy_client : ℕ → Operation
destroy_client client = Known kinds.DestroyClientId client

-- ---- results

-- the client ID, and the sequence ID of its next CREATE_SESSION
abbrev pub record_of : Outcome → Option (ℕ × ℕ)
record_of (Done kinds.ExchangeId v) = Some (v.0, v.1.0)
record_of _ = None

abbrev pub record_in : List Outcome → Option (ℕ × ℕ)
record_in results = option_and_then record_of (last_of results)

abbrev pub record_value : Registration → ℕ × ℕ
record_value r = (r.client, r.number)

-- the session ID
abbrev pub session_of : Outcome → Option (List ℕ)
session_of (Done kinds.CreateSession v) = Some v.0
session_of _ = None

abbrev pub session_in : List Outcome → Option (List ℕ)
session_in results = option_and_then session_of (last_of results)

abbrev pub session_value : List ℕ → List ℕ
session_value session = session

-- ---- outcomes

-- a client without a session yet
pub record IsNew {S A : Type 0} (stream : S) (uid gid : ℕ) (client : Client S A) : Type 0 where
  pub over : client.stream ≡ stream
  pub user : client.uid ≡ uid
  pub group : client.gid ≡ gid

abbrev pub MadeKnown : {S A : Type 0} → Talking S → ClientOwner → Client S A → Client S A
    → Result Registration ToolFault → Type 0
MadeKnown talks owner old new result =
    AskGives talks (taking record_in record_value) (outside_session (exchange_id owner ∷ [])) old new result

abbrev pub SessionMade : {S A : Type 0} → Talking S → Registration → Client S A → Client S A
    → Result (List ℕ) ToolFault → Type 0
SessionMade talks r old new result =
    AskGives talks (taking session_in session_value) (outside_session (create_session r.client r.number ∷ []))
    old new result

-- the most bytes of an owner's ID (NFS4_OPAQUE_LIMIT: RFC 8881, section 3.1)
abbrev pub most_of_owner : ℕ
most_of_owner = 1024

-- EXCHANGE_ID returns a client ID, and CREATE_SESSION by its numbers a session, in which the client's first call has
-- sequence ID 1. Or the owner's ID is too long, and nothing is sent; or the first exchange fails, or the second.
abbrev pub Begins : {S A : Type 0} → Talking S → ClientOwner → Client S A → Client S A → Result (Unit {0}) ToolFault
    → Type 0
Begins {S} {A} talks owner old new (Ok done) =
    (known : Client S A) × (made : Client S A) × (r : Registration) × (session : List ℕ)
    × MadeKnown talks owner old known (Ok r)
    × SessionMade talks r known made (Ok session)
    × (new ≡ record made { client = r.client; session = session; number = 1 })
Begins {S} {A} talks owner old new (Err fault) =
    ((most_of_owner < length owner.id) × (fault ≡ TooLarge) × (new ≡ old))
    ⊎ ((length owner.id ≤ most_of_owner)
    × (MadeKnown talks owner old new (Err fault)
    ⊎ ((known : Client S A) × (r : Registration) × MadeKnown talks owner old known (Ok r)
    × SessionMade talks r known new (Err fault))))

-- a client of this user and group over the stream begins with a session, or fails to
abbrev pub OpenGives : {S A : Type 0} → Talking S → S → ℕ → ℕ → ClientOwner → Result (Client S A) ToolFault → Type 0
OpenGives {S} {A} talks stream uid gid owner (Ok client) =
    (start : Client S A) × IsNew stream uid gid start × Begins talks owner start client (Ok tt)
OpenGives {S} {A} talks stream uid gid owner (Err fault) =
    (start : Client S A) × (left : Client S A) × IsNew stream uid gid start
    × Begins talks owner start left (Err fault)

abbrev pub Ends : {S A : Type 0} → Talking S → Operation → Client S A → Client S A → Result (Unit {0}) ToolFault
    → Type 0
Ends talks op old new result = AskGives talks no_value (outside_session (op ∷ [])) old new result

-- DESTROY_SESSION is OK, and then DESTROY_CLIENTID; or the first exchange fails, or the second. If an allocation
-- failed for the second, or its call is too large, no other command runs.
abbrev pub EndGives : {S A : Type 0} → Talking S → Client S A → Client S A → Result (Unit {0}) ToolFault → Type 0
EndGives {S} {A} talks old new (Ok done) =
    (mid : Client S A) × Ends talks (destroy_session old.session) old mid (Ok tt)
    × Ends talks (destroy_client old.client) mid new (Ok tt)
EndGives talks old new (Err Failed) = (old.usable ≡ false) × (new ≡ old)
EndGives {S} {A} talks old new (Err fault) =
    Ends talks (destroy_session old.session) old new (Err fault)
    ⊎ ((mid : Client S A) × (last : Client S A) × Ends talks (destroy_session old.session) old mid (Ok tt)
    × Ends talks (destroy_client old.client) mid last (Err fault)
    × Breaks {X = Unit {0}} (Err fault) last new)
