use Rattle.std.proofs.Common.{arith}
use Rattle.log_entries.proofs.Sizes.{call_most}
use Rattle.log_entries.proofs.room.call_room.Goals as goal

pub returns-clause-enough : goal.returns-clause-enough
returns-clause-enough c = λ call fits within. omega (arith, call_most call, fits, within)
