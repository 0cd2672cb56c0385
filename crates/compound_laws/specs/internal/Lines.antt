-- The line of each operation: its checks in order, each with the status with which it fails, and the places of its rows
-- among them (RFC 8881, sections 15 and 18).
use Rattle.std.specs.Prelude.{◌≡◌, List}
use Rattle.nfs_ops.specs.Operations.{Operation}
use Rattle.compound_run.specs.Context.{Context, Handles}
use Rattle.compound_run.specs.Questions.{Question}
use Rattle.compound_laws.specs.RowsAsked.{rows_of, table_rows}
use Rattle.compound_laws.specs.Lines.{line_of, steps_of}

-- the questions are those of the line, with the rows of the operation and no others
abbrev pub AreExactly : Context → Handles → Operation → List Question → Type 0
AreExactly c h op questions = (rows_of questions ≡ table_rows c h op) × (steps_of questions ≡ line_of c h op)
