use Rattle.std.proofs.Common.{◌≡◌, ◌∙◌, length, arith}
use Rattle.node_tree.specs.World.{bytes_of}
use Rattle.tree_parts.proofs.Pieces.{piece_read, whole_buffer}
use Rattle.tree_parts.proofs.part.piece_of.Goals as goal

pub returns : goal.returns
returns g c =
    let long : length c.deref_mut.result.now ≡ c.min-count.result = c.deref_mut.ensures.len ∙ c.in_ok-resize.ensures.len in
    let kept : length c.read.new.buffer ≡ length c.deref_mut.result.now = c.read.auto.buffer in
    whole_buffer c.resize.new.self.len c.read.new.buffer c.resize.new.self.items (kept ∙ c.deref_mut.ensures.len)
    ∙ piece_read (bytes_of c.args.tree.now c.args.number) c.deref_mut.result.now c.read.new.buffer c.args.offset c.min-count.result c.read.result (omega arith) long c.read.ensures.count c.read.ensures.copied
