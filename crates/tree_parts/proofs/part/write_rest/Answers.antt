use Rattle.std.proofs.Common.{◌∙◌, ◌<◌, ◌≤◌, List, ℕ, length, subst, sym}
use Rattle.xdr_wire.specs.Xdr.{HasSpelling, spelling}
use Rattle.xdr_wire.specs.Buffer.{Appends}
use Rattle.node_tree.specs.World.{bytes_of}
use Rattle.tree_parts.specs.Parts.{part, rest_value}
use Rattle.tree_parts.proofs.Pieces.{length_piece}
use Rattle.tree_parts.proofs.part.write_rest.Goals as goal

pub put_rest-requires : goal.put_rest-requires
put_rest-requires g c = subst (λ (b : List ℕ). length b ≤ 1048576) (sym (c.deref.ensures.value ∙ c.in_ok-bytes.ensures)) (length_piece (bytes_of c.args.tree.now c.args.number) c.args.offset)

pub returns-in_err-put_rest-clause-full : goal.returns-in_err-put_rest-clause-full
returns-in_err-put_rest-clause-full g c = λ is.
    subst (λ (b : List ℕ). c.args.writer.now.room < length (spelling part (rest_value c.args.number c.args.offset b))) (c.deref.ensures.value ∙ c.in_ok-bytes.ensures) c.in_err-put_rest.ensures.puts.0

pub returns-clause-ok : goal.returns-clause-ok
returns-clause-ok g c =
    subst (λ (b : List ℕ). Appends c.args.writer.now c.put_rest.new.writer (spelling part (rest_value c.args.number c.args.offset b))) (c.deref.ensures.value ∙ c.in_ok-bytes.ensures) c.in_ok-put_rest.ensures.puts

pub returns-clause-has_spelling : goal.returns-clause-has_spelling
returns-clause-has_spelling g c =
    subst (λ (b : List ℕ). HasSpelling part (rest_value c.args.number c.args.offset b)) (c.deref.ensures.value ∙ c.in_ok-bytes.ensures) c.in_ok-put_rest.ensures.has_spelling
