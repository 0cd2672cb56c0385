use Rattle.hub_laws.proofs.Replayed.{replays_last, replays_later}
use Rattle.hub_laws.proofs.kept.replays_leave_what_lasts.Goals as goal

pub returns : goal.returns
returns c = record { lasting = replays_last; epochs = replays_later }
