use Rattle.std.proofs.Common.{◌≡◌, ◌+◌, ◌<◌, ◌≤◌, ◌^◌, true, sym, subst, arith, length}
use Rattle.node_tree.specs.Restored.{Begun, more_fits}
use Rattle.node_tree.proofs.Restorable.{may_more, IsBegun-more}
use Rattle.node_tree.proofs.restoring.Restoring.more.Goals as goal

pub put_more-requires-clause-few : goal.put_more-requires-clause-few
put_more-requires-clause-few g c =
    let may = may_more (record { world = c.self.inside.store; number = c.self.inside.number; cookie = c.self.inside.cookie }) c.args.number c.args.offset c.args.bytes.now (subst (λ (b : Begun). more_fits b c.args.number c.args.offset c.args.bytes.now ≡ true) (sym c.self.view_is) (sym c.if-not-more_fits.ensures)) in
    let short : c.args.offset + length c.args.bytes.now ≤ c.self.inside.store.limits.bytes = may.short in
    let few : c.self.inside.store.limits.bytes < 2 ^ 62 = c.self.invariant.allowed.bytes in
    omega arith

pub put_more-requires-clause-file : goal.put_more-requires-clause-file
put_more-requires-clause-file g c =
    (may_more (record { world = c.self.inside.store; number = c.self.inside.number; cookie = c.self.inside.cookie }) c.args.number c.args.offset c.args.bytes.now (subst (λ (b : Begun). more_fits b c.args.number c.args.offset c.args.bytes.now ≡ true) (sym c.self.view_is) (sym c.if-not-more_fits.ensures))).file

pub invariant_of-self : goal.invariant_of-self
invariant_of-self g c =
    let may = may_more (record { world = c.self.inside.store; number = c.self.inside.number; cookie = c.self.inside.cookie }) c.args.number c.args.offset c.args.bytes.now (subst (λ (b : Begun). more_fits b c.args.number c.args.offset c.args.bytes.now ≡ true) (sym c.self.view_is) (sym c.if-not-more_fits.ensures)) in
    rw c.in_ok-put_more.ensures (IsBegun-more c.self.inside.store c.self.inside.number c.self.inside.cookie c.self.inside.numbers.items c.self.inside.stamps.keys c.self.invariant c.args.number c.args.offset c.args.bytes.now may)
