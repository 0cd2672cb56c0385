-- RENAME (RFC 8881, section 18.26): a child of the saved directory gets a new name in the current one. A target that
-- has that name loses it. An object that has lost its last name is removed, and its opens are closed.
use Rattle.std.specs.Prelude.{ℕ, [], ◌∷◌}
use Rattle.xdr_wire.specs.Xdr.{Value}
use Rattle.nfs_ops.specs.Forms.{rename_args}
use Rattle.nfs_ops.specs.Parts.{new_name}
use Rattle.compound_run.specs.declared.filehandles.FileHandles.{FileHandles}
use Rattle.compound_run.specs.Context.{Context}
use Rattle.compound_run.specs.Meaning.{Meaning}
use Rattle.compound_run.specs.Operations.Rename.{is_movable, rename}

-- RENAME between two directories, with its last question alone
abbrev pub moving : Value rename_args → ℕ → ℕ → Context → FileHandles → Meaning
moving v from to c h = record (rename v c h) { questions = is_movable from to (new_name v) ∷ [] }
