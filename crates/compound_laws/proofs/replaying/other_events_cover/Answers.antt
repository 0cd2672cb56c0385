use Rattle.compound_laws.proofs.EventsCover.{loads_cover, letting_go_covers}
use Rattle.compound_laws.proofs.replaying.other_events_cover.Goals as goal

pub returns : goal.returns
returns c = record { book = loads_cover; expired = letting_go_covers }
