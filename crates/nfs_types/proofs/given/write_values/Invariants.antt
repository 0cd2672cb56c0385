use Rattle.std.proofs.Common.{[], drop}
use Rattle.xdr_wire.proofs.Going.{Going}
use Rattle.nfs_types.specs.Attributes.{all}
use Rattle.nfs_types.specs.FactsView.{facts_value}
use Rattle.nfs_types.specs.Given.{part}
use Rattle.nfs_types.specs.Views.{bitmap_value}
use Rattle.nfs_types.proofs.Listing.{IsShort}
use Rattle.nfs_types.proofs.given.write_values.Given as goal

abbrev pub invariant-loop-attribute : goal.invariant-loop-attribute
invariant-loop-attribute g l =
    let part_of = part l.fn.book (facts_value l.fn.facts) (bitmap_value l.fn.asked) in
    Going part_of (IsShort part_of 16384) l.fn.writer [] all l.writer (drop l.attribute-index all)
