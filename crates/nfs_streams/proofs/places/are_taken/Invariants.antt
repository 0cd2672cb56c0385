use Rattle.std.proofs.Common.{◌≡◌, take}
use Rattle.nfs_streams.specs.Seats.{taken}
use Rattle.nfs_streams.proofs.places.are_taken.Given as goal

abbrev pub invariant-loop-place : goal.invariant-loop-place
invariant-loop-place g l = l.count ≡ taken (take l.place-index l.places)
