use Rattle.std.proofs.Common.{◌*◌, ◌<◌, ◌+◌, length, inl, inr, refl, arith}
use Rattle.std.proofs.lemmas.Bool.{cases_lt}
use Rattle.store_journal.proofs.LaterHeads.{none_at_end}
use Rattle.store_journal.proofs.later.is_followed.Goals as goal

pub returns : goal.returns
returns c l = elim (cases_lt l.place c.loop-k.k) [
  | inl less ↦ c.loop-k.invariant l.place less l.later
  | inr more ↦
      let rest = c.args.rest.now in
      let few : length rest < 4 * l.place + 8 = omega (arith, more, c.loop-k-test.false) in
      none_at_end c.args.identity c.args.place l.place (length rest) rest refl few l.later
]
