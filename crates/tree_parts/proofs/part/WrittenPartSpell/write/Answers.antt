use Rattle.tree_parts.proofs.part.WrittenPartSpell.write.Goals as goal

pub returns-in-None-clause-puts : goal.returns-in-None-clause-puts
returns-in-None-clause-puts g c = rw (c.in-Object.is, c.in-None.is) c.write-in-None.ensures.puts

pub returns-in-Some-clause-puts : goal.returns-in-Some-clause-puts
returns-in-Some-clause-puts g c = rw (c.in-Object.is, c.in-Some.is) c.write-in-Some.ensures.puts

pub returns-in-Name-clause-puts : goal.returns-in-Name-clause-puts
returns-in-Name-clause-puts g c = rw c.in-Name.is c.write-in-Name.ensures.puts

pub returns-in-Rest-clause-puts : goal.returns-in-Rest-clause-puts
returns-in-Rest-clause-puts g c = rw c.in-Rest.is c.write-in-Rest.ensures.puts
