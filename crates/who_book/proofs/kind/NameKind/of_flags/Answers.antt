use Rattle.std.proofs.lemmas.Bool.{eq-eqb, ne_eqb}
use Rattle.who_book.proofs.Spelled.{group_flag}
use Rattle.who_book.proofs.kind.NameKind.of_flags.Goals as goal

pub returns-then-flags-eq0 : goal.returns-then-flags-eq0
returns-then-flags-eq0 c = rw (group_flag c.args.flags, eq-eqb _ 0 c.if-flags-eq0.true)

pub returns-else-flags-eq0 : goal.returns-else-flags-eq0
returns-else-flags-eq0 c = rw (group_flag c.args.flags, ne_eqb _ 0 c.if-flags-eq0.false)
