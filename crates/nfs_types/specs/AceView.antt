use Rattle.xdr_wire.specs.Xdr.{Value}
use Rattle.nfs_types.specs.Attributes.{ace}
use Rattle.nfs_types.specs.declared.ace.Ace.{Ace}

abbrev pub ace_value : Ace → Value ace
ace_value e = (e.kind, (e.flags, (e.mask, e.who.bytes.now)))
