use Rattle.std.proofs.Common.{◌∙◌, ◌≡◌, ap, sym, map, codes, List}
use Rattle.clap.specs.Matches.{found_of}
use Rattle.clap.specs.Words.{Text, app_of, fault_of, first_of, is_simple, matches_of, rows_of}
use Rattle.clap.specs.Faults.{is_simple_and_free}
use Rattle.clap.proofs.WalkLemmas.{first_value-rows}
use Rattle.nfsc_options.specs.Simple.{nfslab}
use Rattle.nfsc_options.proofs.lab.LabOptions.read.Goals as goal

pub returns-clause-options_are : goal.returns-clause-options_are
returns-clause-options_are g c =
    let words : List Text = map g.S.AsStr.text c.args.words.now in
    let f = found_of c.in_ok-matches.matches in
    let is : app_of c.in_ok-lab_command.field-0 ≡ nfslab = c.in_ok-lab_command.ensures in
    let rows : rows_of f ≡ matches_of nfslab words =
    (c.in_ok-matches.ensures.matches (ap is_simple is)).0 ∙ ap (λ a. matches_of a words) is in
    c.get_str.ensures ∙ (first_value-rows f (codes "book") ∙ ap (first_of (codes "book")) rows)

pub returns-clause-refused : goal.returns-clause-refused
returns-clause-refused g c =
    let words : List Text = map g.S.AsStr.text c.args.words.now in
    let is : app_of c.in_ok-lab_command.field-0 ≡ nfslab = c.in_ok-lab_command.ensures in
    ap (λ a. fault_of a words) (sym is) ∙ c.in_ok-matches.ensures.kinds (ap is_simple_and_free is)
