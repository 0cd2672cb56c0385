use Rattle.std.proofs.Common.{inr}
use Rattle.nfs_tool.proofs.scripting.run.Goals as goal

pub returns : goal.returns
returns g c = inr (record {
  conn = c.in-Ok.conn;
  opened = c.connect.new.self;
  opens = record { goes = c.connect.ensures.goes; extends = c.connect.ensures.extends };
  is_open = c.in-Ok.ensures.gives;
  last = c.visit-outcome.new.hub;
  visits = c.visit-outcome.ensures;
  closes = record { goes = c.close.ensures.goes; extends = c.close.ensures.extends };
})
