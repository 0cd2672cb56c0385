use Rattle.std.proofs.Common.{◌≡◌, List, ℕ, flat_map, sym, subst, arith}
use Rattle.std.specs.List.{AllByRecursion}
use Rattle.node_tree.specs.World.{Object}
use Rattle.store_journal.specs.Passage.{passage}
use Rattle.checkpoint.specs.Writing.{PartsGiven}
use Rattle.checkpoint.specs.internal.Writing.{counted, object_bytes, HasObjectSpelling}
use Rattle.checkpoint.proofs.Putting.{objects_begun, object_put, object_stop, objects_done, there_is, number_closer}
use Rattle.checkpoint.proofs.writing.Parts.put_objects.Goals as goal

pub loop-number-init : goal.loop-number-init
loop-number-init g c = record { empty = c.requires.empty; put = objects_begun g.D.Disk.adds c.args.tree.now c.args.journal.now c.args.self.now.size c.args.disk.now c.requires.sound }

pub put_object-requires-clause-there : goal.put_object-requires-clause-there
put_object-requires-clause-there g c = there_is g.D.Disk.adds c.args.tree.now c.loop-number.at c.in-Some.number c.args.journal.now c.loop-number.journal c.args.self.now.size c.loop-number.self.size c.args.disk.now c.loop-number.disk c.requires.sound c.loop-number.invariant.put (sym c.in-Some.ensures)

pub loop-number-smaller : goal.loop-number-smaller
loop-number-smaller g c =
    let closer = number_closer g.D.Disk.adds c.args.tree.now c.loop-number.at c.in-Some.number c.args.journal.now c.loop-number.journal c.args.self.now.size c.loop-number.self.size c.args.disk.now c.loop-number.disk c.requires.sound c.loop-number.invariant.put (sym c.in-Some.ensures) in
    omega (arith, closer.0, closer.1)

pub returns-in-Err-clause-ends : goal.returns-in-Err-clause-ends
returns-in-Err-clause-ends g c =
    object_stop g.D.Disk.adds c.args.tree.now c.loop-number.at c.in-Some.number c.args.journal.now c.loop-number.journal c.put_object.new.journal c.args.self.now.size c.loop-number.self.size c.in-Err.fault c.args.disk.now c.loop-number.disk c.put_object.new.disk c.requires.sound c.loop-number.invariant.put (sym c.in-Some.ensures) c.in-Err.ensures.ends

pub loop-number-preserved : goal.loop-number-preserved
loop-number-preserved g c = record {
  empty = c.in-Ok.ensures.empty;
  put = object_put g.D.Disk.adds c.args.tree.now c.loop-number.at c.in-Some.number c.args.journal.now c.loop-number.journal c.put_object.new.journal c.args.self.now.size c.loop-number.self.size c.put_object.new.self.size c.args.disk.now c.loop-number.disk c.put_object.new.disk c.requires.sound c.in-Ok.ensures.size c.loop-number.invariant.put (sym c.in-Some.ensures) c.in-Ok.ensures.has_spelling c.in-Ok.ensures.ends;
}

pub returns-clause-ends : goal.returns-clause-ends
returns-clause-ends g c =
    let p = c.loop-number.invariant.put in
    subst (λ (l : List (ℕ × Object)). PartsGiven (passage g.D.Disk.adds c.args.disk.now c.loop-number.disk) c.args.journal.now (flat_map object_bytes l) c.loop-number.journal)
    (objects_done g.D.Disk.adds c.args.tree.now c.loop-number.at c.args.journal.now c.loop-number.journal c.args.self.now.size c.loop-number.self.size c.args.disk.now c.loop-number.disk p (sym c.in_default.ensures)) p.given

pub returns-clause-has_spelling : goal.returns-clause-has_spelling
returns-clause-has_spelling g c =
    let p = c.loop-number.invariant.put in
    subst (AllByRecursion HasObjectSpelling)
    (objects_done g.D.Disk.adds c.args.tree.now c.loop-number.at c.args.journal.now c.loop-number.journal c.args.self.now.size c.loop-number.self.size c.args.disk.now c.loop-number.disk p (sym c.in_default.ensures)) p.have

pub returns-clause-size : goal.returns-clause-size
returns-clause-size g c =
    let p = c.loop-number.invariant.put in
    subst (λ (l : List (ℕ × Object)). c.loop-number.self.size ≡ counted c.args.self.now.size (flat_map object_bytes l))
    (objects_done g.D.Disk.adds c.args.tree.now c.loop-number.at c.args.journal.now c.loop-number.journal c.args.self.now.size c.loop-number.self.size c.args.disk.now c.loop-number.disk p (sym c.in_default.ensures)) p.size_is
