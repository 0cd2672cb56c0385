-- The state on which the operations of a COMPOUND act.
use Rattle.std.specs.Prelude.{ℕ, Bool, false, ◌==◌, not, if◌then◌else◌, List, [], filter, is_some, Option, Some, None}
use Rattle.node_tree.specs.World.{World, kind_of}
use Rattle.session_slots.specs.Registry.{Registry, nobody}

-- an open file (RFC 8881, section 18.16)
pub record Opened : Type 0 where
  pub number : ℕ
  -- the client ID of the client that has it open
  pub client : ℕ
  -- the bytes of the open-owner
  pub owner : List ℕ
  -- the object number of the file
  pub object : ℕ
  -- 1 to read, 2 to write, 3 for both
  pub access : ℕ
  pub seqid : ℕ

pub record Realm : Type 0 where
  pub world : World
  -- the open files, by rising number
  pub opens : List Opened
  -- the number that the next open gets
  pub next_open : ℕ
  -- the clients and their sessions
  pub registry : Registry
  -- sessions are persistent: they survive a restart of this server (RFC 8881, section 2.10.6.5)
  pub lasting : Bool

-- no file was ever open, no client ever had a record, and sessions aren't persistent
abbrev pub unopened : World → Realm
unopened w = record { world = w; opens = []; next_open = 1; registry = nobody w.limits; lasting = false }

-- ---- opens end with their object

-- An object that has lost its last name is gone, and its opens are closed. These opens remain in a world where this
-- object has lost a name.
abbrev pub opens_left : World → Option ℕ → List Opened → List Opened
opens_left w None opens = opens
opens_left w (Some number) opens =
    if is_some (kind_of w number) then opens else filter (λ o. not (o.object == number)) opens

-- the realm of a world in which an object has lost a name, if one has
abbrev pub with_loss : World → Option ℕ → Realm → Realm
with_loss w lost r = record r { world = w; opens = opens_left w lost r.opens }
