use Rattle.std.proofs.Common.{◌≡◌, ◌∙◌, ◌<◌, ◌≤◌, ◌^◌, true, sym, subst, ap, arith, length}
use Rattle.std.specs.List.{list_any}
use Rattle.std.specs.Ordering.{nat_cmp}
use Rattle.std.specs.BTreeMap.{is_at}
use Rattle.node_tree.specs.Restored.{Begun, kept_object, object_fits}
use Rattle.node_tree.proofs.Holding.{most_is_held}
use Rattle.node_tree.proofs.Restorable.{may_put, IsBegun-object, one_stamp_more, Rises-later}
use Rattle.node_tree.proofs.restoring.Restoring.object.Goals as goal

pub put_object-requires-clause-bytes : goal.put_object-requires-clause-bytes
put_object-requires-clause-bytes g c =
    let may = may_put (record { world = c.self.inside.store; number = c.self.inside.number; cookie = c.self.inside.cookie }) c.args.number (kept_object c.args.new c.args.kept) (subst (λ (b : Begun). object_fits b c.args.number (kept_object c.args.new c.args.kept) ≡ true) (sym c.self.view_is) (sym c.if-not-object_fits.ensures)) in
    most_is_held c.self.inside.store.limits c.self.invariant.allowed c.args.new.kind (length c.args.new.bytes.items) may.fit.bytes

pub put_object-requires-clause-last : goal.put_object-requires-clause-last
put_object-requires-clause-last g c =
    let may = may_put (record { world = c.self.inside.store; number = c.self.inside.number; cookie = c.self.inside.cookie }) c.args.number (kept_object c.args.new c.args.kept) (subst (λ (b : Begun). object_fits b c.args.number (kept_object c.args.new c.args.kept) ≡ true) (sym c.self.view_is) (sym c.if-not-object_fits.ensures)) in
    Rises-later (λ e. e.0) 1 c.self.inside.number c.args.number c.self.inside.store.objects may.after c.self.invariant.numbered

pub overflow_add-self : goal.overflow_add-self
overflow_add-self g c =
    let may = may_put (record { world = c.self.inside.store; number = c.self.inside.number; cookie = c.self.inside.cookie }) c.args.number (kept_object c.args.new c.args.kept) (subst (λ (b : Begun). object_fits b c.args.number (kept_object c.args.new c.args.kept) ≡ true) (sym c.self.view_is) (sym c.if-not-object_fits.ensures)) in
    let before : c.args.number < c.self.inside.store.next_number = may.before in
    let few : c.self.inside.store.next_number ≤ 2 ^ 63 = c.self.invariant.counted.numbers in
    omega arith

pub invariant_of-self : goal.invariant_of-self
invariant_of-self g c =
    let may = may_put (record { world = c.self.inside.store; number = c.self.inside.number; cookie = c.self.inside.cookie }) c.args.number (kept_object c.args.new c.args.kept) (subst (λ (b : Begun). object_fits b c.args.number (kept_object c.args.new c.args.kept) ≡ true) (sym c.self.view_is) (sym c.if-not-object_fits.ensures)) in
    rw c.in_ok-put_object.ensures (IsBegun-object c.self.inside.store c.self.inside.number c.self.inside.cookie c.self.inside.numbers.items c.self.inside.stamps.keys c.self.invariant c.args.number (kept_object c.args.new c.args.kept) may
    c.note_number.new.numbers.items c.note_stamp.new.stamps.keys c.in_ok-note_number.ensures (λ s. ap (list_any (is_at (nat_cmp s))) c.in_ok-note_stamp.ensures ∙ one_stamp_more s c.args.kept.stamp c.self.inside.stamps.keys))
