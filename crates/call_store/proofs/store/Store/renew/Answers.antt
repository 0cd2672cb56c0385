use Rattle.call_store.proofs.store.Store.renew.Goals as goal

pub returns-in-Err : goal.returns-in-Err
returns-in-Err g c = (
  c.write_checkpoint.new.journal,
  record { why = c.in-Err.fault; fault_is = c.leave.ensures.fault; writes = c.in-Err.ensures.writes },
  c.leave.ensures.then_is,
)
