-- A checkpoint keeps the world, the clients, and the book.
use Rattle.std.specs.Prelude.{◌≡◌}
use Rattle.who_book.specs.Content.{Content}
use Rattle.node_tree.specs.World.{World}
use Rattle.compound_run.specs.ClientState.{ClientState}
use Rattle.compound_run.specs.State.{State, client_state_of}
use Rattle.client_parts.specs.Comparing.{AreSame}

pub record Kept : Type 0 where
  pub world : World
  -- records, sessions with their slots, open files, and the next numbers
  pub clients : ClientState
  pub book : Content

-- the whole state of a server is kept: each slot caches the same call
pub record IsOf (kept : Kept) (s : State) : Type 0 where
  pub world_is : kept.world ≡ s.realm.world
  pub clients_are : AreSame kept.clients (client_state_of s)
  pub book_is : kept.book ≡ s.settings.book
