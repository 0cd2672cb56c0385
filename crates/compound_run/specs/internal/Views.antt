-- The values of the code, as the definitions see them.
use Rattle.std.specs.Prelude.{Bool, true, false}
use Rattle.nfs_ops.specs.Operations.{Operation}
use Rattle.compound_run.specs.declared.filehandles.FileHandles.{FileHandles}
use Rattle.compound_run.specs.Context.{Context}
use Rattle.compound_run.specs.Operations.{body}
use Rattle.compound_run.specs.internal.Operations.{takes_memory_in}
use Rattle.compound_run.specs.Runs.{waits}
use Rattle.compound_run.specs.Views.{Sense, sense}

-- once it has its place, and room for its result; or before that; or with its end
abbrev pub by_body : Context → FileHandles → Operation → Sense
by_body c handles op = sense (takes_memory_in c op) (body c handles op) waits

-- a condition for an operation that runs
abbrev pub IfRun : Bool → Type 0 → Type 0
IfRun true A = A
IfRun false A = Unit {0}
