use Rattle.call_store.proofs.OpenMoments.{open_moments}
use Rattle.call_store.proofs.laws.at_each_moment_of_a_start_the_disk_represents_the_same.Goals as goal

pub returns : goal.returns
returns c = open_moments
