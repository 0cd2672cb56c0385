use Rattle.std.proofs.Common.{◌≡◌, refl, sym, ap, ◌∙◌}
use Rattle.session_slots.specs.Limits.{END}
use Rattle.session_slots.specs.Registry.{client_at}
use Rattle.session_slots.specs.Restoring.{number_from}
use Rattle.client_parts.specs.internal.Comparing.{first_of}
use Rattle.client_parts.proofs.Alike.{clients_below}
use Rattle.client_parts.proofs.Walking.{none_further, none_before, next_number, walked, walked_all, more, smaller, fits}
use Rattle.client_parts.proofs.comparing.are_records_same.Goals as goal

pub overflow_add-at : goal.overflow_add-at
overflow_add-at g c =
    let next = ap (λ o. first_of o (number_from c.loop-number.at c.args.b.now.clients)) (sym c.client_from.ensures) ∙ ap (first_of c.client_from.result) (sym c.client_from-in-loop-number.ensures) ∙ sym c.first.ensures ∙ c.in-Some.is in
    let n = next_number c.args.a.now.clients c.args.b.now.clients c.counts.ensures.rising.0 c.counts-2.ensures.rising.0 END (clients_below c.args.a.now c.counts.ensures.orderly) (clients_below c.args.b.now c.counts-2.ensures.orderly) c.loop-number.at c.in-Some.number next in
    fits c.in-Some.number n.most

pub loop-number-smaller : goal.loop-number-smaller
loop-number-smaller g c =
    let next = ap (λ o. first_of o (number_from c.loop-number.at c.args.b.now.clients)) (sym c.client_from.ensures) ∙ ap (first_of c.client_from.result) (sym c.client_from-in-loop-number.ensures) ∙ sym c.first.ensures ∙ c.in-Some.is in
    let n = next_number c.args.a.now.clients c.args.b.now.clients c.counts.ensures.rising.0 c.counts-2.ensures.rising.0 END (clients_below c.args.a.now c.counts.ensures.orderly) (clients_below c.args.b.now c.counts-2.ensures.orderly) c.loop-number.at c.in-Some.number next in
    smaller c.loop-number.at c.in-Some.number END n.least n.most

pub loop-number-preserved : goal.loop-number-preserved
loop-number-preserved g c =
    let a = c.args.a.now in
    let b = c.args.b.now in
    let next = ap (λ o. first_of o (number_from c.loop-number.at b.clients)) (sym c.client_from.ensures) ∙ ap (first_of c.client_from.result) (sym c.client_from-in-loop-number.ensures) ∙ sym c.first.ensures ∙ c.in-Some.is in
    let n = next_number a.clients b.clients c.counts.ensures.rising.0 c.counts-2.ensures.rising.0 END (clients_below a c.counts.ensures.orderly) (clients_below b c.counts-2.ensures.orderly) c.loop-number.at c.in-Some.number next in (
      more c.in-Some.number END n.most,
      walked (λ n. client_at a n ≡ client_at b n) c.loop-number.at c.in-Some.number c.loop-number.invariant.1
          (λ n le lt. let none = none_before a.clients b.clients c.counts.ensures.rising.0 c.counts-2.ensures.rising.0 c.loop-number.at c.in-Some.number n next le lt in none.0 ∙ sym none.1)
          (c.is_record_same.ensures.0 c.if-not-is_record_same.false),
    )

pub returns : goal.returns
returns g c =
    let a = c.args.a.now in
    let b = c.args.b.now in
    let ended = ap (λ o. first_of o (number_from c.loop-number.at b.clients)) (sym c.client_from.ensures) ∙ ap (first_of c.client_from.result) (sym c.client_from-in-loop-number.ensures) ∙ sym c.first.ensures ∙ c.in_default.is in (
      λ t. walked_all (λ n. client_at a n ≡ client_at b n) c.loop-number.at c.loop-number.invariant.1
          (λ n le. let none = none_further a.clients b.clients c.counts.ensures.rising.0 c.counts-2.ensures.rising.0 c.loop-number.at n ended le in none.0 ∙ sym none.1),
      λ all. refl,
    )
