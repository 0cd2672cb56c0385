use Rattle.std.proofs.Common.{Bor, List, ℕ, map}
use Rattle.compound_run.specs.ClientState.{unknown}
use Rattle.checkpoint.proofs.Gathering.{applying_begun, applying_more, applying_done, applying_fault, at_place, at_last}
use Rattle.checkpoint.proofs.reading.client_state_of.Goals as goal

pub loop-bytes-init : goal.loop-bytes-init
loop-bytes-init g c = applying_begun (unknown c.args.limits) (map (λ (b : Bor (List ℕ)). b.now) c.args.parts.now) c.nothing-clients.result c.nothing-clients.ensures

pub loop-bytes-preserved : goal.loop-bytes-preserved
loop-bytes-preserved g c =
    applying_more (unknown c.args.limits) (map (λ (b : Bor (List ℕ)). b.now) c.args.parts.now) c.loop-bytes.clients _ c.loop-bytes.invariant _ _
    (at_place (λ (b : Bor (List ℕ)). b.now) c.args.parts.now c.loop-bytes.bytes-index _ c.loop-bytes-test.true) c.apply_whole.new.clients c.in-Ok.ensures

pub returns-in-Err : goal.returns-in-Err
returns-in-Err g c =
    applying_fault (unknown c.args.limits) (map (λ (b : Bor (List ℕ)). b.now) c.args.parts.now) c.loop-bytes.clients _ c.loop-bytes.invariant _ _
    (at_place (λ (b : Bor (List ℕ)). b.now) c.args.parts.now c.loop-bytes.bytes-index _ c.loop-bytes-test.true) c.apply_whole.new.clients c.in-Err.fault c.in-Err.ensures

pub returns : goal.returns
returns g c =
    applying_done (unknown c.args.limits) (map (λ (b : Bor (List ℕ)). b.now) c.args.parts.now) c.loop-bytes.clients _ c.loop-bytes.invariant
    (at_last (λ (b : Bor (List ℕ)). b.now) c.args.parts.now c.loop-bytes.bytes-index c.loop-bytes-test.false)
