use Rattle.std.proofs.Common.{◌≡◌, ◌<◌, true, false, subst, sym, ◌∙◌}
use Rattle.client_parts.proofs.Alike.{same_at}
use Rattle.client_parts.proofs.comparing.are_opens_same.Goals as goal

pub returns-then-not-is_same_open : goal.returns-then-not-is_same_open
returns-then-not-is_same_open g c = (
  λ t. absurd (never t),
  λ same. absurd (never (sym c.if-not-is_same_open.true ∙ c.is_same_open.ensures.1
      (same_at c.args.a.now c.args.b.now c.loop-at.at c.index-a-at.result c.index-b-at.result same c.loop-at-test.true (subst (λ n. c.loop-at.at < n) c.if-a-b.false c.loop-at-test.true) c.index-a-at.is c.index-b-at.is))),
)
  where
    never : false ≡ true → ⊥
    never e = cc
