use Rattle.std.proofs.Common.{Bor, List, ℕ, map, sym}
use Rattle.checkpoint.proofs.Gathering.{taking_more, taking_done, taking_none, taking_unwhole, restored_fault, at_place, at_last}
use Rattle.checkpoint.proofs.reading.restored.Goals as goal

pub returns-in-Err : goal.returns-in-Err
returns-in-Err g c =
    restored_fault c.args.limits (map (λ (b : Bor (List ℕ)). b.now) c.args.parts.now) c.loop-bytes.so_far _ _ _ c.in-Err.fault c.loop-bytes.invariant
    (at_place (λ (b : Bor (List ℕ)). b.now) c.args.parts.now c.loop-bytes.bytes-index _ c.loop-bytes-test.true) c.in-Err.ensures

pub loop-bytes-preserved : goal.loop-bytes-preserved
loop-bytes-preserved g c =
    taking_more c.args.limits (map (λ (b : Bor (List ℕ)). b.now) c.args.parts.now) c.loop-bytes.so_far _ _ _ c.in-Ok.more c.loop-bytes.invariant (at_place (λ (b : Bor (List ℕ)). b.now) c.args.parts.now c.loop-bytes.bytes-index _ c.loop-bytes-test.true) c.in-Ok.ensures

pub returns-in_default : goal.returns-in_default
returns-in_default g c =
    taking_none c.args.limits (map (λ (b : Bor (List ℕ)). b.now) c.args.parts.now) c.loop-bytes.so_far _ c.in_default.is c.loop-bytes.invariant (at_last (λ (b : Bor (List ℕ)). b.now) c.args.parts.now c.loop-bytes.bytes-index c.loop-bytes-test.false)

pub returns-in_default-finish : goal.returns-in_default-finish
returns-in_default-finish g c =
    taking_unwhole c.args.limits (map (λ (b : Bor (List ℕ)). b.now) c.args.parts.now) c.loop-bytes.so_far c.in-Some.restoring _ c.in-Some.is c.loop-bytes.invariant (at_last (λ (b : Bor (List ℕ)). b.now) c.args.parts.now c.loop-bytes.bytes-index c.loop-bytes-test.false)
    (sym c.in_default-finish.ensures.whole)

pub returns : goal.returns
returns g c =
    taking_done c.args.limits (map (λ (b : Bor (List ℕ)). b.now) c.args.parts.now) c.loop-bytes.so_far c.in-Some.restoring _ c.in-Some.is c.loop-bytes.invariant (at_last (λ (b : Bor (List ℕ)). b.now) c.args.parts.now c.loop-bytes.bytes-index c.loop-bytes-test.false)
    (sym c.in-Some-finish.ensures.whole) _ c.in-Some-finish.ensures.value
