use Rattle.std.proofs.Common.{◌≡◌, ◌∙◌, Bool, true, ◌&&◌, ap, refl, subst, arith}
use Rattle.std.specs.Prelude.{Result, Ok, Err, IfOk, IsOkUnless, nat_le}
use Rattle.std.proofs.lemmas.Bool.{le-leb}
use Rattle.node_tree.specs.World.{World}
use Rattle.session_slots.specs.declared.restoring.RestoreFault.{RestoreFault}
use Rattle.session_slots.specs.declared.restoring.RestoreFault.TheVariants.{Memory, Misfit}
use Rattle.compound_run.specs.ClientState.{ClientState, opens_fit}
use Rattle.nfs_hub.specs.Answer as answers
use Rattle.nfs_hub.proofs.server.Service.with_lasting_sessions.Goals as goal

-- a fault other than a misfit is a failed allocation
wants_memory : {T : Type 0} (r : Result T RestoreFault) → (r ≡ Err Misfit → ⊥) → IsOkUnless r Memory
wants_memory (Ok x) fits = tt
wants_memory (Err Memory) fits = refl
wants_memory (Err Misfit) fits = absurd (fits refl)

pub returns-clause-ok : goal.returns-clause-ok
returns-clause-ok g c =
    subst (λ (k : World × ClientState). IfOk c.restored.result (λ service. service ≡ answers.restored k.0 k.1 c.args.book))
    (λ i. (c.in_ok-root.ensures i, c.nothing.ensures i)) c.restored.ensures.ok

pub returns-clause-err : goal.returns-clause-err
returns-clause-err g c =
    let few : nat_le 0 c.args.limits.opens ≡ true = le-leb 0 c.args.limits.opens (omega arith) in
    let fits : opens_fit c.in_ok-root.root c.nothing.result ≡ true = (λ i. opens_fit (c.in_ok-root.ensures i) (c.nothing.ensures i)) ∙ ap (λ (b : Bool). b && true) few in
    wants_memory c.restored.result (λ misfit. let no = c.restored.ensures.misfit misfit in cc (fits, no))
