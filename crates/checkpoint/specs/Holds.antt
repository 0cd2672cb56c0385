-- The parts of a checkpoint hold the kept state.
use Rattle.std.specs.Prelude.{◌≡◌, true, List, [], ◌∷◌, ◌++◌, length, Option, Some, None, Ok}
use Rattle.xdr_wire.specs.Xdr.{Value}
use Rattle.xdr_wire.specs.Reading.{read_at}
use Rattle.store_journal.specs.Disk.{Bytes}
use Rattle.nfs_types.specs.Limits.{Limits}
use Rattle.node_tree.specs.World.{World}
use Rattle.node_tree.specs.Restored.{Begun, is_whole}
use Rattle.tree_parts.specs.Parts.{part}
use Rattle.tree_parts.specs.Taken.{TakesAll}
use Rattle.compound_run.specs.ClientState.{ClientState, unknown}
use Rattle.client_parts.specs.Applying.{AppliesChanges}
use Rattle.client_parts.specs.PartCount.{client_part_count}
use Rattle.checkpoint.specs.Head.{HeadStates, NamesOther}
use Rattle.checkpoint.specs.Kept.{Kept}

-- these bytes are changes of the clients, without a rest
abbrev pub AppliesWhole : ClientState → Bytes → ClientState → Type 0
AppliesWhole old bytes new = AppliesChanges old bytes new []

-- the changes of each of these parts are applied, in order
abbrev pub AppliesParts : ClientState → List Bytes → ClientState → Type 0
AppliesParts old [] new = new ≡ old
AppliesParts old (bytes ∷ parts) new = (mid : ClientState) × AppliesWhole old bytes mid × AppliesParts mid parts new

-- all parts of clients under these limits lead, in order, from no client to these clients
pub record BeginsClients (limits : Limits) (parts : List Bytes) (new : ClientState) : Type 0 where
  pub count : length parts ≡ client_part_count limits
  pub applies : AppliesParts (unknown limits) parts new

-- each of the byte strings is a part of a tree, without a rest
abbrev pub ReadsParts : List Bytes → List (Value part) → Type 0
ReadsParts [] [] = Unit {0}
ReadsParts [] (v ∷ values) = ⊥
ReadsParts (bytes ∷ parts) [] = ⊥
ReadsParts (bytes ∷ parts) (v ∷ values) = (read_at part bytes ≡ Ok (v, [])) × ReadsParts parts values

-- these parts, after those that were taken, complete a tree under these limits
pub record Restores (limits : Limits) (so_far : Option Begun) (parts : List Bytes) (w : World) : Type 0 where
  pub values : List (Value part)
  pub read : ReadsParts parts values
  pub begun : Begun
  pub taken : TakesAll limits so_far values (Some begun)
  pub whole : is_whole begun.world ≡ true
  pub world_is : w ≡ begun.world

-- After the head come the parts of the clients, and then those of the tree, both under the limits of the head's
-- profile. They are those of the tree.
pub record HoldsAfter (head : Bytes) (others : List Bytes) (kept : Kept) : Type 0 where
  pub states : HeadStates head kept.world.limits kept.book
  pub clients : List Bytes
  pub tree : List Bytes
  pub others_are : others ≡ clients ++ tree
  pub begins : BeginsClients kept.world.limits clients kept.clients
  pub restores : Restores kept.world.limits None tree kept.world

-- **A checkpoint**: a head, the parts of the clients, and the parts of the tree
abbrev pub Holds : List Bytes → Kept → Type 0
Holds [] kept = ⊥
Holds (head ∷ others) kept = HoldsAfter head others kept

-- the head of these parts is of a profile that doesn't exist here
abbrev pub IsOfOther : List Bytes → Type 0
IsOfOther [] = ⊥
IsOfOther (head ∷ parts) = NamesOther head

-- two states that the same parts hold are equal
abbrev pub HoldsOneLaw : Type 0
HoldsOneLaw = (parts : List Bytes) (j k : Kept) → Holds parts j → Holds parts k → j ≡ k
