use Rattle.compound_laws.specs.LiveOpens.{OpensHold}
use Rattle.compound_laws.proofs.KeepingOpens.{opens_keep}
use Rattle.compound_laws.proofs.KeptByRuns.{calls_keep}
use Rattle.compound_laws.proofs.KeptInSessions.{session_calls_keep, loads_keep, letting_go_keeps}
use Rattle.compound_laws.proofs.opens.calls_keep_opens.Goals as goal

pub returns : goal.returns
returns c = record {
  bare = calls_keep OpensHold opens_keep;
  in_session = session_calls_keep OpensHold opens_keep;
  book = loads_keep OpensHold;
  expired = letting_go_keeps OpensHold opens_keep;
}
