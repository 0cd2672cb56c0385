use Rattle.session_slots.proofs.WrittenOnce.{one_client, one_session, one_call}
use Rattle.session_slots.proofs.laws.what_is_written_is_of_one.Goals as goal

pub returns-clause-clients : goal.returns-clause-clients
returns-clause-clients c = λ a b h k e. one_client a b h k e

pub returns-clause-sessions : goal.returns-clause-sessions
returns-clause-sessions c = λ m n a b e. one_session m n a b e

pub returns-clause-calls : goal.returns-clause-calls
returns-clause-calls c = λ m n s t k l e. one_call m n s t k l e
