use Rattle.std.proofs.Common.{[]}
use Rattle.xdr_wire.specs.Xdr.{HasSpelling, spelling}
use Rattle.xdr_wire.specs.Buffer as buffers
use Rattle.node_tree.specs.World.{Object, object}
use Rattle.tree_parts.specs.Parts.{part, first_value}
use Rattle.checkpoint.proofs.Putting.{ends_stop, given_none, on_ok, written_alone}
use Rattle.checkpoint.proofs.Rests.{object_ends, object_has, object_refused, object_size, of_there, there}
use Rattle.checkpoint.proofs.writing.Parts.put_object.Goals as goal

pub returns-in_default-clause-ends : goal.returns-in_default-clause-ends
returns-in_default-clause-ends g c = ends_stop g.D.Disk.adds c.args.journal.now c.args.journal.now [] _ c.args.disk.now c.args.disk.now (given_none g.D.Disk.adds c.args.journal.now c.args.disk.now)

pub returns-in-Err-clause-ends : goal.returns-in-Err-clause-ends
returns-in-Err-clause-ends g c =
    let w = c.args.tree.now in
    let number = c.args.number in
    let o = there (object w number) c.requires.there in
    let old = c.args.self.now.writer in
    let new = c.write_object.new.writer in
    object_refused w number o.0 o.1 new.bytes
    (written_alone old new (spelling part (first_value number o.0)) c.requires.empty (of_there (λ (x : Object). buffers.Appends old new (spelling part (first_value number x))) (object w number) o.0 o.1 c.in-Ok.ensures.ok))
    g.D.Disk.adds c.args.journal.now c.put.new.journal c.in-Err.fault c.args.disk.now c.put.new.disk c.in-Err.ensures.ends

pub returns-clause-ends : goal.returns-clause-ends
returns-clause-ends g c =
    let w = c.args.tree.now in
    let number = c.args.number in
    let o = there (object w number) c.requires.there in
    let old = c.args.self.now.writer in
    let new = c.write_object.new.writer in
    object_ends w number o.0 o.1 new.bytes
    (written_alone old new (spelling part (first_value number o.0)) c.requires.empty (of_there (λ (x : Object). buffers.Appends old new (spelling part (first_value number x))) (object w number) o.0 o.1 c.in-Ok.ensures.ok))
    g.D.Disk.adds c.args.journal.now c.put.new.journal c.put_rests.new.journal c.put_rests.result c.args.disk.now c.put.new.disk c.put_rests.new.disk c.in-Ok-put.ensures.ends c.put_rests.ensures.ends

pub returns-clause-has_spelling : goal.returns-clause-has_spelling
returns-clause-has_spelling g c =
    let w = c.args.tree.now in
    let number = c.args.number in
    let o = there (object w number) c.requires.there in
    on_ok c.put_rests.result _ _ c.put_rests.ensures.has_spelling
    (object_has w number o.0 o.1 (of_there (λ (x : Object). HasSpelling part (first_value number x)) (object w number) o.0 o.1 c.in-Ok.ensures.has_spelling))

pub returns-clause-size : goal.returns-clause-size
returns-clause-size g c =
    let w = c.args.tree.now in
    let number = c.args.number in
    let o = there (object w number) c.requires.there in
    let old = c.args.self.now.writer in
    let new = c.write_object.new.writer in
    on_ok c.put_rests.result _ _ c.put_rests.ensures.size
    (object_size w number o.0 o.1 new.bytes
    (written_alone old new (spelling part (first_value number o.0)) c.requires.empty (of_there (λ (x : Object). buffers.Appends old new (spelling part (first_value number x))) (object w number) o.0 o.1 c.in-Ok.ensures.ok))
    c.args.self.now.size c.put.new.self.size c.put_rests.new.self.size c.in-Ok-put.ensures.size)
