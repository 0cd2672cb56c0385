use Rattle.call_store.proofs.CallMoments.{begin_moments, close_moments, keep_moments, mark_moments}
use Rattle.call_store.proofs.laws.at_each_moment_the_disk_represents_one_of_the_two.Goals as goal

pub returns : goal.returns
returns c = record { keep = keep_moments; mark = mark_moments; close = close_moments; begin = begin_moments }
