-- The value of reading a path with at least one name.
use Rattle.std.specs.Prelude.{ℕ, List, map, Result, Ok, Err}
use Rattle.nfs_client.specs.Commands.{IsIn, HasNoName}
use Rattle.nfs_client.specs.declared.path.Place.{Place}
use Rattle.nfs_client.specs.declared.fault.ToolFault.{ToolFault}
use Rattle.nfs_client.specs.declared.fault.ToolFault.TheVariants.{Path, Memory}

abbrev pub PlaceGives : {A : Type 0} → List ℕ → Result (Place A) ToolFault → Type 0
PlaceGives text (Ok place) = IsIn text (map (λ n. n.now) place.directory.items) place.name.now
PlaceGives text (Err Path) = HasNoName text
PlaceGives text (Err Memory) = Unit {0}
PlaceGives text (Err fault) = ⊥
