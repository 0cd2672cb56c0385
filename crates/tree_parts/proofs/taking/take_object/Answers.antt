use Rattle.std.proofs.Common.{refl}
use Rattle.node_tree.specs.Restored.{kept_object}
use Rattle.tree_parts.proofs.Writing.{object_taken}
use Rattle.tree_parts.proofs.Refusing.{object_refused, object_unheard}
use Rattle.tree_parts.proofs.taking.take_object.Goals as goal

pub returns-in_default-clause-unsound : goal.returns-in_default-clause-unsound
returns-in_default-clause-unsound g c = λ _. object_unheard c.args.restoring c.args.access c.args.number _ _ c.in_default.ensures.none

pub returns-clause-ok : goal.returns-clause-ok
returns-clause-ok g c =
    object_taken c.object.result c.args.restoring c.args.number (kept_object c.in_ok-new.new c.in-Some.kept) c.args.access _ c.object.ensures.ok c.object.ensures.refused
    (rw (c.in_ok-new.ensures.kind, c.in_ok-new.ensures.bytes, c.in_ok-new.ensures.owner, c.in_ok-new.ensures.group, c.in_ok-new.ensures.list, c.in_ok-new.ensures.high, c.in-Some.ensures.access, c.in-Some.ensures.value) refl)

pub returns-clause-unsound : goal.returns-clause-unsound
returns-clause-unsound g c =
    object_refused c.object.result c.args.restoring c.args.number (kept_object c.in_ok-new.new c.in-Some.kept) c.args.access _ c.object.ensures.taken
    (rw (c.in_ok-new.ensures.kind, c.in_ok-new.ensures.bytes, c.in_ok-new.ensures.owner, c.in_ok-new.ensures.group, c.in_ok-new.ensures.list, c.in_ok-new.ensures.high, c.in-Some.ensures.access, c.in-Some.ensures.value) refl)
