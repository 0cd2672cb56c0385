use Rattle.std.proofs.Common.{◌<◌, ◌≤◌, ◌∙◌, List, ℕ, length, subst, sym}
use Rattle.xdr_wire.specs.Xdr.{HasSpelling, spelling}
use Rattle.xdr_wire.specs.Buffer.{Appends}
use Rattle.node_tree.specs.World.{Object, bytes_of}
use Rattle.tree_parts.specs.Parts.{part, object_value}
use Rattle.tree_parts.proofs.Pieces.{length_piece}
use Rattle.tree_parts.proofs.Writing.{of_object}
use Rattle.tree_parts.proofs.part.write_object.Goals as goal

pub put_object-requires-clause-bytes : goal.put_object-requires-clause-bytes
put_object-requires-clause-bytes g c = subst (λ (b : List ℕ). length b ≤ 1048576) (sym (c.deref.ensures.value ∙ c.in_ok-bytes.ensures)) (length_piece (bytes_of c.args.tree.now c.args.number) 0)

pub returns-in_err-put_object-clause-full : goal.returns-in_err-put_object-clause-full
returns-in_err-put_object-clause-full g c = λ is.
    of_object c.args.tree.now c.args.number c.in-Some.node.now c.deref.result.now (λ (o : Object). c.args.writer.now.room < length (spelling part (object_value c.args.number o))) c.in-Some.ensures.value
    (c.deref.ensures.value ∙ c.in_ok-bytes.ensures) c.in_err-put_object.ensures.puts.0

pub returns-clause-ok : goal.returns-clause-ok
returns-clause-ok g c =
    of_object c.args.tree.now c.args.number c.in-Some.node.now c.deref.result.now (λ (o : Object). Appends c.args.writer.now c.put_object.new.writer (spelling part (object_value c.args.number o))) c.in-Some.ensures.value
    (c.deref.ensures.value ∙ c.in_ok-bytes.ensures) c.in_ok-put_object.ensures.puts

pub returns-clause-has_spelling : goal.returns-clause-has_spelling
returns-clause-has_spelling g c =
    of_object c.args.tree.now c.args.number c.in-Some.node.now c.deref.result.now (λ (o : Object). HasSpelling part (object_value c.args.number o)) c.in-Some.ensures.value (c.deref.ensures.value ∙ c.in_ok-bytes.ensures)
    c.in_ok-put_object.ensures.has_spelling
