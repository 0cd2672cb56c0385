use Rattle.std.proofs.Common.{sym, arith}
use Rattle.xdr_wire.specs.Xdr.{spelling}
use Rattle.node_tree.specs.World.{bytes_of}
use Rattle.tree_parts.specs.Parts.{part, piece, rest_value}
use Rattle.checkpoint.proofs.Putting.{written_alone}
use Rattle.checkpoint.proofs.Rests.{offset_closer, rest_put, rest_stop, rests_begun, rests_given, rests_have, rests_size, rests_stop}
use Rattle.checkpoint.proofs.writing.Parts.put_rests.Goals as goal

pub loop-offset-init : goal.loop-offset-init
loop-offset-init g c = record { empty = c.requires; put = rests_begun c.args.tree.now c.args.number g.D.Disk.adds c.args.journal.now c.args.self.now.size c.args.disk.now }

pub loop-offset-smaller : goal.loop-offset-smaller
loop-offset-smaller g c =
    let closer = offset_closer c.args.tree.now c.args.number g.D.Disk.adds c.loop-offset.at c.args.journal.now c.loop-offset.journal c.args.self.now.size c.loop-offset.self.size c.args.disk.now c.loop-offset.disk c.loop-offset.invariant.put c.in-Some.offset (sym c.in-Some.ensures) in
    omega (arith, closer.0, closer.1)

pub loop-offset-preserved : goal.loop-offset-preserved
loop-offset-preserved g c =
    let w = c.args.tree.now in
    let number = c.args.number in
    let offset = c.in-Some.offset in
    record {
      empty = c.put.ensures.empty;
      put = rest_put w number g.D.Disk.adds c.loop-offset.at c.args.journal.now c.loop-offset.journal c.args.self.now.size c.loop-offset.self.size c.args.disk.now c.loop-offset.disk c.loop-offset.invariant.put offset c.put.new.journal c.put.new.self.size c.write_rest.new.writer.bytes c.put.new.disk c.in-Ok-put.ensures.size (sym c.in-Some.ensures)
          (written_alone c.loop-offset.self.writer c.write_rest.new.writer (spelling part (rest_value number offset (piece (bytes_of w number) offset))) c.loop-offset.invariant.empty c.in-Ok.ensures.ok) c.in-Ok.ensures.has_spelling c.in-Ok-put.ensures.ends;
    }

pub returns-in_default-write_rest-clause-ends : goal.returns-in_default-write_rest-clause-ends
returns-in_default-write_rest-clause-ends g c =
    rests_stop c.args.tree.now c.args.number g.D.Disk.adds c.loop-offset.at c.args.journal.now c.loop-offset.journal c.args.self.now.size c.loop-offset.self.size c.args.disk.now c.loop-offset.disk c.loop-offset.invariant.put

pub returns-in-Err-clause-ends : goal.returns-in-Err-clause-ends
returns-in-Err-clause-ends g c =
    let w = c.args.tree.now in
    let number = c.args.number in
    let offset = c.in-Some.offset in
    rest_stop w number g.D.Disk.adds c.loop-offset.at c.args.journal.now c.loop-offset.journal c.args.self.now.size c.loop-offset.self.size c.args.disk.now c.loop-offset.disk c.loop-offset.invariant.put offset c.put.new.journal c.write_rest.new.writer.bytes c.in-Err.fault c.put.new.disk (sym c.in-Some.ensures)
    (written_alone c.loop-offset.self.writer c.write_rest.new.writer (spelling part (rest_value number offset (piece (bytes_of w number) offset))) c.loop-offset.invariant.empty c.in-Ok.ensures.ok) c.in-Err.ensures.ends

pub returns-clause-ends : goal.returns-clause-ends
returns-clause-ends g c =
    rests_given c.args.tree.now c.args.number g.D.Disk.adds c.loop-offset.at c.args.journal.now c.loop-offset.journal c.args.self.now.size c.loop-offset.self.size c.args.disk.now c.loop-offset.disk c.loop-offset.invariant.put (sym c.in_default.ensures)

pub returns-clause-has_spelling : goal.returns-clause-has_spelling
returns-clause-has_spelling g c =
    rests_have c.args.tree.now c.args.number g.D.Disk.adds c.loop-offset.at c.args.journal.now c.loop-offset.journal c.args.self.now.size c.loop-offset.self.size c.args.disk.now c.loop-offset.disk c.loop-offset.invariant.put (sym c.in_default.ensures)

pub returns-clause-size : goal.returns-clause-size
returns-clause-size g c =
    rests_size c.args.tree.now c.args.number g.D.Disk.adds c.loop-offset.at c.args.journal.now c.loop-offset.journal c.args.self.now.size c.loop-offset.self.size c.args.disk.now c.loop-offset.disk c.loop-offset.invariant.put (sym c.in_default.ensures)
