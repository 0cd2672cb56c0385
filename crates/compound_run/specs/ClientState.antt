-- The client state: the clients' records with their sessions and slots, the open files, and the number that the next
-- open file gets. Open files have to fit the world after a restart (RFC 8881, section 2.10.6.5).
use Rattle.std.specs.Prelude.{ℕ, ◌^◌, ◌&&◌, Bool, true, nat_lt, nat_le, List, [], ◌∷◌, length, is_some}
use Rattle.std.specs.List.{list_all}
use Rattle.nfs_types.specs.Limits.{Limits}
use Rattle.node_tree.specs.World.{World}
use Rattle.node_tree.specs.World.{is_file_at}
use Rattle.session_slots.specs.Registry.{Registry, client_at, nobody}
use Rattle.compound_run.specs.Limits.{MAX_OWNER}
use Rattle.compound_run.specs.Realm.{Opened}

pub record ClientState : Type 0 where
  pub registry : Registry
  pub opens : List Opened
  pub next_open : ℕ

-- no client ever had a record, and no file was ever open
abbrev pub unknown : Limits → ClientState
unknown limits = record { registry = nobody limits; opens = []; next_open = 1 }

-- to read 1, to write 2, for both 3
abbrev pub is_access : ℕ → Bool
is_access access = nat_le 1 access && nat_le access 3

-- a seqid that an open may have (RFC 8881, section 8.2.2)
abbrev pub is_seqid : ℕ → Bool
is_seqid seqid = nat_le 1 seqid && nat_lt seqid (2 ^ 32)

-- An open file fits: its number was given out, the file exists, and its client has a record. Owner, access and seqid
-- are within their bounds.
abbrev pub open_fits : World → Registry → ℕ → Opened → Bool
open_fits w registry next o =
    nat_lt o.number next && (is_file_at w o.object && (is_some (client_at registry o.client)
    && (nat_le (length o.owner) MAX_OWNER && (is_access o.access && is_seqid o.seqid))))

-- the numbers rise, from above this one
abbrev pub rise_above : ℕ → List Opened → Bool
rise_above last [] = true
rise_above last (o ∷ opens) = nat_lt last o.number && rise_above o.number opens

-- a number that the next open may get
abbrev pub is_next : ℕ → Bool
is_next next = nat_le 1 next && nat_le next (2 ^ 63)

-- The open files fit a world and their clients. Their numbers are at least 1, and rise.
abbrev pub opens_fit : World → ClientState → Bool
opens_fit w k =
    is_next k.next_open && (nat_le (length k.opens) w.limits.opens
    && (rise_above 0 k.opens && list_all (open_fits w k.registry k.next_open) k.opens))
