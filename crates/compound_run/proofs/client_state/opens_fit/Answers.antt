use Rattle.std.proofs.Common.{rules, ◌≡◌, ◌≤◌, ◌∙◌, true, length, sym, ap, arith}
use Rattle.std.specs.Prelude.{◌&&◌, nat_le}
use Rattle.std.specs.List.{list_all}
use Rattle.std.proofs.lemmas.List.{length-map}
use Rattle.std.proofs.lemmas.Bool.Decides.{nat_tests}
use Rattle.nfs_types.specs.Limits.{Limits}
use Rattle.compound_run.specs.ClientState.{is_next, open_fits, rise_above}
use Rattle.compound_run.specs.Views.{open_view, opens_view}
use Rattle.compound_run.proofs.OpensOf.{all_in_view}
use Rattle.compound_run.proofs.client_state.opens_fit.Goals as goal

pub returns-then-rise : goal.returns-then-rise
returns-then-rise g c =
    let now = c.args.now in
    let opens = opens_view now.opens.now in
    let fit = open_fits c.args.tree.now now.clients.now now.next_open in
    let next : is_next now.next_open ≡ true = search rules in
    let long : length opens ≡ length now.opens.now = length-map now.opens.now open_view in
    let most = c.args.tree.now.limits.opens in
    let within : length opens ≤ most = omega (arith, long, c.if-now-most.true, c.opens-most.ensures, ap (λ (l : Limits). l.opens) c.limits.ensures) in
    let few : nat_le (length opens) most ≡ true = grind (arith, nat_tests, within) in
    let rising : rise_above 0 opens ≡ true = search rules in
    c.all_fit.ensures ∙ all_in_view fit now.opens.now ∙ (λ i. sym next i && (sym few i && (sym rising i && list_all fit opens)))
