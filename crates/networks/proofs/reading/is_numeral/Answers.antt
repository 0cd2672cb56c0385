use Rattle.std.proofs.Common.{◌<◌, ◌∙◌, sym, arith, rules, length}
use Rattle.networks.proofs.Numerals.{digits, are_digits}
use Rattle.networks.proofs.reading.is_numeral.Goals as goal

pub returns-then-not-is_empty : goal.returns-then-not-is_empty
returns-then-not-is_empty c =
    let some : 0 < length c.args.text.now = search (rules, arith) in
    (λ e. (some, digits _ (sym c.are_digits.ensures ∙ e)), λ n. c.are_digits.ensures ∙ are_digits _ n.1)
