use Rattle.std.proofs.Common.{rules}
use Rattle.client_parts.proofs.comparing.are_same.Goals as goal

pub returns : goal.returns
returns g c = (
  λ t. record {
    limits = c.are_limits_same.ensures.0 c.if-not-are_limits_same.false;
    records = c.are_records_same.ensures.0 c.if-not-are_records_same.false;
    sessions = c.are_sessions_same.ensures.0 c.if-not-are_sessions_same.false;
    next_client = (c.are_numbers_same.ensures.0 c.if-not-are_numbers_same.false).0;
    next_session = (c.are_numbers_same.ensures.0 c.if-not-are_numbers_same.false).1;
    opens = c.are_opens_same.ensures.0 t;
    next_open = search rules;
  },
  λ same. c.are_opens_same.ensures.1 same.opens,
)
