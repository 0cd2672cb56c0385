use Rattle.std.proofs.Common.{◌≡◌, ◌+◌, ◌≤◌, length}
use Rattle.store_folder.proofs.Counting.{Passed}
use Rattle.store_folder.proofs.corruption.frames_of.Given as goal

abbrev pub invariant-loop-frame : goal.invariant-loop-frame
invariant-loop-frame l = record {
  identity : l.frames.identity ≡ l.fn.identity;
  few : l.frames.place.number + length l.frames.rest.now ≤ length l.fn.file;
  passed : Passed l.fn.identity l.fn.generation l.fn.file l.frames.place l.frames.rest.now;
}

abbrev pub decreases-loop-frame : goal.decreases-loop-frame
decreases-loop-frame l = length l.frames.rest.now
