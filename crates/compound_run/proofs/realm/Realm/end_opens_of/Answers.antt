use Rattle.std.proofs.Common.{ap, sym, ◌∙◌}
use Rattle.std.specs.Prelude.{◌==◌, not}
use Rattle.compound_run.specs.Sessions.{opens_without}
use Rattle.compound_run.specs.Views.{opens_view}
use Rattle.compound_run.proofs.OpenFiles.{kept_in_view}
use Rattle.compound_run.proofs.realm.Realm.end_opens_of.Goals as goal

pub returns-in-Some-clause-opens : goal.returns-in-Some-clause-opens
returns-in-Some-clause-opens g c =
    let items = c.args.self.now.opens.items in
    ap opens_view c.keep_others_of.ensures ∙ kept_in_view (λ o. not (o.client == c.in-Some.client)) items
    ∙ ap (λ removed. opens_without removed (opens_view items)) (sym c.in-Some.is)
