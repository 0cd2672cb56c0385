use Rattle.std.proofs.Common.{◌≡◌, ◌∙◌, ap, sym, subst, true, false, Ok}
use Rattle.std.specs.Prelude.{decimal}
use Rattle.std.specs.Str.{IsUtf8, bytes_eq}
use Rattle.std.proofs.lemmas.Fmt.{IsAscii-decimal, parse-decimal}
use Rattle.std.proofs.lemmas.Slice.Eq.{bytes_eq-Decides}
use Rattle.std.proofs.lemmas.Str.{IsUtf8-from_ascii}
use Rattle.server_metrics.proofs.reading.read_number.Goals as goal

pub returns-in_default : goal.returns-in_default
returns-in_default c =
    λ n small is. c.in_default.ensures.cases.0
    (subst IsUtf8 (sym is) (IsUtf8-from_ascii (decimal n) (IsAscii-decimal n small)))

pub returns-in_default-parse : goal.returns-in_default-parse
returns-in_default-parse c =
    λ n small is. c.in_default-parse.not-Ok n
    (parse-decimal 64 n c.in-Ok.text.now c.parse.result small small (c.in-Ok.ensures.cases.0 ∙ is) c.parse.ensures.value.0)

pub returns-else-eq : goal.returns-else-eq
returns-else-eq c =
    λ n small is.
    let read : c.parse.result ≡ Ok n =
    parse-decimal 64 n c.in-Ok.text.now c.parse.result small small (c.in-Ok.ensures.cases.0 ∙ is)
    c.parse.ensures.value.0 in
    let same : c.in-Ok-parse.number ≡ n = cc in
    let equal : c.as_bytes.result.now ≡ c.args.value.now =
    c.as_bytes.ensures.value ∙ c.format.ensures.text ∙ ap decimal same ∙ sym is in
    let test : bytes_eq c.as_bytes.result.now c.args.value.now ≡ true = (bytes_eq-Decides _ _).1 equal in
    cc (c.if-eq.ensures)
