use Rattle.std.proofs.Common.{◌≡◌, ◌<◌, ◌≤◌, ◌^◌, true, sym, subst, arith}
use Rattle.node_tree.specs.World.{Name}
use Rattle.node_tree.specs.Restored.{Begun, name_fits}
use Rattle.node_tree.proofs.Restorable.{may_name, IsBegun-name, Rises-later}
use Rattle.node_tree.proofs.restoring.Restoring.name.Goals as goal

pub put_name-requires-clause-absent : goal.put_name-requires-clause-absent
put_name-requires-clause-absent g c =
    let n : Name = record { cookie = c.args.cookie; directory = c.args.directory; name = c.args.name.now; child = c.args.child } in
    (may_name (record { world = c.self.inside.store; number = c.self.inside.number; cookie = c.self.inside.cookie }) c.self.invariant.allowed.links n (subst (λ (b : Begun). name_fits b n ≡ true) (sym c.self.view_is) (sym c.if-not-name_fits.ensures))).none

pub put_name-requires-clause-last : goal.put_name-requires-clause-last
put_name-requires-clause-last g c =
    let n : Name = record { cookie = c.args.cookie; directory = c.args.directory; name = c.args.name.now; child = c.args.child } in
    let may = may_name (record { world = c.self.inside.store; number = c.self.inside.number; cookie = c.self.inside.cookie }) c.self.invariant.allowed.links n (subst (λ (b : Begun). name_fits b n ≡ true) (sym c.self.view_is) (sym c.if-not-name_fits.ensures)) in
    Rises-later (λ n. n.cookie) 3 c.self.inside.cookie c.args.cookie c.self.inside.store.names may.after c.self.invariant.listed

pub overflow_add-self : goal.overflow_add-self
overflow_add-self g c =
    let n : Name = record { cookie = c.args.cookie; directory = c.args.directory; name = c.args.name.now; child = c.args.child } in
    let may = may_name (record { world = c.self.inside.store; number = c.self.inside.number; cookie = c.self.inside.cookie }) c.self.invariant.allowed.links n (subst (λ (b : Begun). name_fits b n ≡ true) (sym c.self.view_is) (sym c.if-not-name_fits.ensures)) in
    let before : c.args.cookie < c.self.inside.store.next_cookie = may.before in
    let few : c.self.inside.store.next_cookie ≤ 2 ^ 63 = c.self.invariant.counted.cookies in
    omega arith

pub invariant_of-self : goal.invariant_of-self
invariant_of-self g c =
    let n : Name = record { cookie = c.args.cookie; directory = c.args.directory; name = c.args.name.now; child = c.args.child } in
    let may = may_name (record { world = c.self.inside.store; number = c.self.inside.number; cookie = c.self.inside.cookie }) c.self.invariant.allowed.links n (subst (λ (b : Begun). name_fits b n ≡ true) (sym c.self.view_is) (sym c.if-not-name_fits.ensures)) in
    rw c.in_ok-put_name.ensures (IsBegun-name c.self.inside.store c.self.inside.number c.self.inside.cookie c.self.inside.numbers.items c.self.inside.stamps.keys c.self.invariant n may)
