-- The parts of a checkpoint are made before any of them is written.
use Rattle.std.specs.Prelude.{List, ◌∷◌, ◌++◌, map}
use Rattle.xdr_wire.specs.Xdr.{spelling}
use Rattle.store_journal.specs.Disk.{Bytes}
use Rattle.node_tree.specs.World.{World}
use Rattle.tree_parts.specs.Parts.{part, parts}
use Rattle.compound_run.specs.ClientState.{ClientState}
use Rattle.compound_run.specs.State.{State, client_state_of}
use Rattle.client_parts.specs.Comparing.{AreSame}
use Rattle.checkpoint.specs.declared.drafting.Draft as drafts
use Rattle.checkpoint.specs.Covering.{IsInOrder}
use Rattle.checkpoint.specs.Head.{HeadStates}
use Rattle.checkpoint.specs.Holds.{BeginsClients}

-- the head, and the parts of the clients
pub record Draft : Type 0 where
  pub head : Bytes
  pub clients : List Bytes

abbrev pub draft_of : {A : Type 0} → drafts.Draft A → Draft
draft_of d = record { head = d.head.items; clients = map (λ bytes. bytes.items) d.clients.items }

abbrev pub draft_parts : Draft → List Bytes
draft_parts d = d.head ∷ d.clients

-- all parts of a checkpoint
abbrev pub all_parts : World → Draft → List Bytes
all_parts w d = draft_parts d ++ map (spelling part) (parts w)

-- The first parts encode the limits of the server's tree, its book, and the clients that are read again from them.
-- These are the server's.
pub record IsDraft (d : Draft) (clients : ClientState) (s : State) : Type 0 where
  pub states : HeadStates d.head s.realm.world.limits s.settings.book
  pub begins : BeginsClients s.realm.world.limits d.clients clients
  pub same : AreSame clients (client_state_of s)
  pub in_order : IsInOrder clients.registry
  pub was_in_order : IsInOrder s.realm.registry
