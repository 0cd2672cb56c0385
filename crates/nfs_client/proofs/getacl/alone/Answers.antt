use Rattle.nfs_client.proofs.GivenSets.{none_has}
use Rattle.nfs_client.proofs.getacl.alone.Goals as goal

pub returns : goal.returns
returns g = λ n. rw (g.empty.ensures, g.number.ensures.value, none_has n) at (g.with.ensures n)
