use Rattle.std.proofs.Common.{◌≡◌, length}
use Rattle.nfs_streams.specs.Seats.{taken}
use Rattle.nfs_streams.proofs.serving.free_places.Given as goal

abbrev pub invariant-loop-place : goal.invariant-loop-place
invariant-loop-place g l = record { len : length l.places.items ≡ l._place; free : taken l.places.items ≡ 0 }
