use Rattle.xdr_wire.specs.Xdr.{uint, array}
use Rattle.xdr_wire.specs.Reading.{read_at}
use Rattle.nfs_types.proofs.Words.{Filling}
use Rattle.nfs_types.proofs.bitmap.BitmapWire.read.Given as goal

abbrev pub invariant-loop-index : goal.invariant-loop-index
invariant-loop-index l = Filling (read_at (array 8 uint) l.fn.reader) l.count l.index l.words l.ahead
