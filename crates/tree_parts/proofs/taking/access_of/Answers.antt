use Rattle.tree_parts.proofs.Refusing.{if_none, no_access}
use Rattle.tree_parts.proofs.taking.access_of.Goals as goal

pub returns-in_err-moment_of-in-Some-clause-none : goal.returns-in_err-moment_of-in-Some-clause-none
returns-in_err-moment_of-in-Some-clause-none c = if_none c.from_residual.result (no_access c.in-Some.written c.args.written c.in-Some.is c.in_err-moment_of-in-Some.ensures.none)
