use Rattle.std.proofs.Common.{ap}
use Rattle.tree_parts.proofs.Refusing.{if_none}
use Rattle.tree_parts.proofs.taking.kept_of.Goals as goal

pub returns-in_err-access_of-clause-none : goal.returns-in_err-access_of-clause-none
returns-in_err-access_of-clause-none c = if_none c.from_residual.result (λ change last modify metadata stamp a h. c.in_err-access_of.ensures.none last a)

pub returns-in_err-moment_of-clause-none : goal.returns-in_err-moment_of-clause-none
returns-in_err-moment_of-clause-none c = if_none c.from_residual-in_err-moment_of.result (λ change last modify metadata stamp a h. c.in_err-moment_of.ensures.none modify (ap (λ v. v.1.0) h))

pub returns-in_err-moment_of-2-clause-none : goal.returns-in_err-moment_of-2-clause-none
returns-in_err-moment_of-2-clause-none c = if_none c.from_residual-in_err-moment_of-2.result (λ change last modify metadata stamp a h. c.in_err-moment_of-2.ensures.none metadata (ap (λ v. v.1.1.0) h))
