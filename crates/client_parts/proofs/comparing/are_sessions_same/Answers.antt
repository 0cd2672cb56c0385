use Rattle.std.proofs.Common.{refl, sym, ap, ◌∙◌}
use Rattle.session_slots.specs.Limits.{END}
use Rattle.session_slots.specs.Restoring.{number_from}
use Rattle.client_parts.specs.Comparing.{IsSessionSame}
use Rattle.client_parts.specs.internal.Comparing.{first_of}
use Rattle.client_parts.proofs.Alike.{none_same, sessions_below}
use Rattle.client_parts.proofs.Walking.{none_further, none_before, next_number, walked, walked_all, more, smaller, fits}
use Rattle.client_parts.proofs.comparing.are_sessions_same.Goals as goal

pub overflow_add-at : goal.overflow_add-at
overflow_add-at g c =
    let next = ap (λ o. first_of o (number_from c.loop-number.at c.args.b.now.sessions)) (sym c.session_from.ensures) ∙ ap (first_of c.session_from.result) (sym c.session_from-in-loop-number.ensures) ∙ sym c.first.ensures ∙ c.in-Some.is in
    let n = next_number c.args.a.now.sessions c.args.b.now.sessions c.counts.ensures.rising.1 c.counts-2.ensures.rising.1 END (sessions_below c.args.a.now c.counts.ensures.orderly) (sessions_below c.args.b.now c.counts-2.ensures.orderly) c.loop-number.at c.in-Some.number next in
    fits c.in-Some.number n.most

pub loop-number-smaller : goal.loop-number-smaller
loop-number-smaller g c =
    let next = ap (λ o. first_of o (number_from c.loop-number.at c.args.b.now.sessions)) (sym c.session_from.ensures) ∙ ap (first_of c.session_from.result) (sym c.session_from-in-loop-number.ensures) ∙ sym c.first.ensures ∙ c.in-Some.is in
    let n = next_number c.args.a.now.sessions c.args.b.now.sessions c.counts.ensures.rising.1 c.counts-2.ensures.rising.1 END (sessions_below c.args.a.now c.counts.ensures.orderly) (sessions_below c.args.b.now c.counts-2.ensures.orderly) c.loop-number.at c.in-Some.number next in
    smaller c.loop-number.at c.in-Some.number END n.least n.most

pub loop-number-preserved : goal.loop-number-preserved
loop-number-preserved g c =
    let a = c.args.a.now in
    let b = c.args.b.now in
    let next = ap (λ o. first_of o (number_from c.loop-number.at b.sessions)) (sym c.session_from.ensures) ∙ ap (first_of c.session_from.result) (sym c.session_from-in-loop-number.ensures) ∙ sym c.first.ensures ∙ c.in-Some.is in
    let n = next_number a.sessions b.sessions c.counts.ensures.rising.1 c.counts-2.ensures.rising.1 END (sessions_below a c.counts.ensures.orderly) (sessions_below b c.counts-2.ensures.orderly) c.loop-number.at c.in-Some.number next in (
      more c.in-Some.number END n.most,
      walked (λ n. IsSessionSame a b n) c.loop-number.at c.in-Some.number c.loop-number.invariant.1
          (λ n le lt. let none = none_before a.sessions b.sessions c.counts.ensures.rising.1 c.counts-2.ensures.rising.1 c.loop-number.at c.in-Some.number n next le lt in none_same a b n none.0 none.1)
          (c.is_session_same.ensures.0 c.if-not-is_session_same.false),
    )

pub returns : goal.returns
returns g c =
    let a = c.args.a.now in
    let b = c.args.b.now in
    let ended = ap (λ o. first_of o (number_from c.loop-number.at b.sessions)) (sym c.session_from.ensures) ∙ ap (first_of c.session_from.result) (sym c.session_from-in-loop-number.ensures) ∙ sym c.first.ensures ∙ c.in_default.is in (
      λ t. walked_all (λ n. IsSessionSame a b n) c.loop-number.at c.loop-number.invariant.1
          (λ n le. let none = none_further a.sessions b.sessions c.counts.ensures.rising.1 c.counts-2.ensures.rising.1 c.loop-number.at n ended le in none_same a b n none.0 none.1),
      λ all. refl,
    )
