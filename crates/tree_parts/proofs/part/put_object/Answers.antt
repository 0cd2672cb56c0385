use Rattle.std.proofs.Common.{◌∙◌, None, Some, subst, sym}
use Rattle.xdr_wire.specs.Xdr.{spelling}
use Rattle.xdr_wire.specs.Buffer.{Puts}
use Rattle.node_tree.specs.World.{Object}
use Rattle.tree_parts.specs.Parts.{part, object_value}
use Rattle.tree_parts.proofs.Writing.{same_object}
use Rattle.tree_parts.proofs.part.put_object.Goals as goal

pub returns-in-None-clause-puts : goal.returns-in-None-clause-puts
returns-in-None-clause-puts g c =
    let some = c.in-Some-Some in
    let written : Object = record {
      kind = c.kind.result;
      bytes = some.bytes.bytes.now;
      owner = c.owner.result;
      group = c.group.result;
      list = some.list.entries.now;
      high = c.high.result;
      change = c.change.result;
      time_access = None;
      time_modify = c.time_modify.result;
      time_metadata = c.time_metadata.result;
      stamp = c.stamp.result;
    } in
    let wanted : Object = record c.args.node.now { bytes = c.args.bytes.now } in
    let same = same_object written wanted c.kind.ensures some.ensures.same c.owner.ensures c.group.ensures (some.ensures'.same ∙ c.as_slice.ensures ∙ c.list.ensures) c.high.ensures c.change.ensures (sym c.in-None.is ∙ c.time_access.ensures) c.time_modify.ensures c.time_metadata.ensures c.stamp.ensures in
    subst (λ (o : Object). Puts c.args.writer.now c.write.new.writer (spelling part (object_value c.args.number o)) c.write.result) same c.write.ensures.puts

pub returns-in-Some-clause-puts : goal.returns-in-Some-clause-puts
returns-in-Some-clause-puts g c =
    let some = c.in-Some-Some in
    let written : Object = record {
      kind = c.kind.result;
      bytes = some.bytes.bytes.now;
      owner = c.owner.result;
      group = c.group.result;
      list = some.list.entries.now;
      high = c.high.result;
      change = c.change.result;
      time_access = Some c.in-Some.access;
      time_modify = c.time_modify.result;
      time_metadata = c.time_metadata.result;
      stamp = c.stamp.result;
    } in
    let wanted : Object = record c.args.node.now { bytes = c.args.bytes.now } in
    let same = same_object written wanted c.kind.ensures some.ensures.same c.owner.ensures c.group.ensures (some.ensures'.same ∙ c.as_slice.ensures ∙ c.list.ensures) c.high.ensures c.change.ensures (sym c.in-Some.is ∙ c.time_access.ensures) c.time_modify.ensures c.time_metadata.ensures c.stamp.ensures in
    subst (λ (o : Object). Puts c.args.writer.now c.write-in-Some.new.writer (spelling part (object_value c.args.number o)) c.write-in-Some.result) same c.write-in-Some.ensures.puts
