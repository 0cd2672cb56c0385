use Rattle.std.proofs.Common.{refl}
use Rattle.nfs_streams.specs.Stages.{Full}
use Rattle.nfs_streams.proofs.Steps.{put_off_full}
use Rattle.nfs_streams.proofs.places.expire_client.Goals as goal

pub returns-in_default : goal.returns-in_default
returns-in_default g c = λ n left limits o same st. put_off_full st

pub returns : goal.returns
returns g c = λ n left limits o same st. c.shut_at.ensures.moves (Full n) refl left limits o same st
