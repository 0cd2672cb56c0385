-- The meaning of each operation at its place (RFC 8881, section 18): one line for each supported operation, in the
-- order of the standard. The other operations answer NOTSUPP once they are decoded, as do the operations of sessions
-- without a session. Of the latter, RECLAIM_COMPLETE alone runs after a SEQUENCE.
use Rattle.std.specs.Prelude.{Bool}
use Rattle.nfs_ops.specs.Operations.{Operation}
use Rattle.compound_run.specs.Context.{Context}
use Rattle.compound_run.specs.Operations.{takes_memory}

abbrev pub takes_memory_in : Context → Operation → Bool
takes_memory_in c op = takes_memory op
