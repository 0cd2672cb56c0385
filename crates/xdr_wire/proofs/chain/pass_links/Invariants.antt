use Rattle.std.proofs.Common.{length}
use Rattle.xdr_wire.specs.Xdr.{chain}
use Rattle.xdr_wire.specs.Reading.{read_at}
use Rattle.xdr_wire.proofs.Passing.{IsAppended}
use Rattle.xdr_wire.proofs.chain.pass_links.Given as goal

abbrev pub invariant-loop : goal.invariant-loop
invariant-loop g l = let read = read_at (chain g.T.Spell.form) in IsAppended (read l.fn.reader) (read l.ahead)

abbrev pub decreases-loop : goal.decreases-loop
decreases-loop g l = length l.ahead
