use Rattle.access_guard.proofs.Calls.{looks_in_turn, decision-looks}
use Rattle.access_guard.proofs.laws.calls_are_their_look_ups.Goals as goal

pub returns-clause-decision : goal.returns-clause-decision
returns-clause-decision c = decision-looks

pub returns-clause-in_turn : goal.returns-clause-in_turn
returns-clause-in_turn c = looks_in_turn
