use Rattle.client_parts.proofs.change.WrittenChangeSpell.write.Goals as goal

pub returns-in-Numbers-clause-puts : goal.returns-in-Numbers-clause-puts
returns-in-Numbers-clause-puts g c = rw c.in-Numbers.is c.write.ensures.puts

pub returns-in-Record-clause-puts : goal.returns-in-Record-clause-puts
returns-in-Record-clause-puts g c = rw c.in-Record.is c.write-in-Record.ensures.puts

pub returns-in-Session-clause-puts : goal.returns-in-Session-clause-puts
returns-in-Session-clause-puts g c = rw c.in-Session.is c.write-in-Session.ensures.puts

pub returns-in-Call-clause-puts : goal.returns-in-Call-clause-puts
returns-in-Call-clause-puts g c = rw c.in-Call.is c.write-in-Call.ensures.puts

pub returns-in-Open-clause-puts : goal.returns-in-Open-clause-puts
returns-in-Open-clause-puts g c = rw c.in-Open.is c.write-in-Open.ensures.puts
