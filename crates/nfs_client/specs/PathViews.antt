-- The value of reading a path.
use Rattle.std.specs.Prelude.{◌≡◌, ℕ, List, Some, None, Result, Ok, Err}
use Rattle.nfs_client.specs.declared.fault.ToolFault.{ToolFault}
use Rattle.nfs_client.specs.declared.fault.ToolFault.TheVariants.{Path as NoPath, Memory}
use Rattle.nfs_client.specs.Paths.{names_in}

-- The names of the text, `Path` if and only if the text is no path; or an allocation fails.
abbrev pub PathGives : {X : Type 0} → (X → List (List ℕ)) → List ℕ → Result X ToolFault → Type 0
PathGives names text (Ok path) = names_in text ≡ Some (names path)
PathGives names text (Err NoPath) = names_in text ≡ None
PathGives names text (Err Memory) = Unit {0}
PathGives names text (Err _) = ⊥
