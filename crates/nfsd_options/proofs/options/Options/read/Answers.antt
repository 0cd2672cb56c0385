use Rattle.std.proofs.Common.{◌∙◌, Some, ap, sym, inr}
use Rattle.std.specs.Prelude.{option_map}
use Rattle.nfsd_options.specs.Mistakes.{kind_at}
use Rattle.nfsd_options.proofs.options.Options.read.Goals as goal

pub returns-in-Some-clause-refused : goal.returns-in-Some-clause-refused
returns-in-Some-clause-refused g c =
    let mistake = sym c.of.ensures ∙ ap (option_map kind_at) c.in-Some.is in
    inr (c.in_ok-options.ensures.refused, inr (c.in_ok-options.options, c.in_ok-options.ensures.options_are, mistake ∙ ap Some (sym c.in_ok-error.ensures)))
