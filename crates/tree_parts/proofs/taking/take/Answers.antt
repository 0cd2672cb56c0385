use Rattle.node_tree.specs.World.{Name}
use Rattle.tree_parts.proofs.Writing.{name_taken, rest_taken}
use Rattle.tree_parts.proofs.Refusing.{name_refused, rest_refused}
use Rattle.tree_parts.proofs.taking.take.Goals as goal

pub returns-in-Some-Object-clause-ok : goal.returns-in-Some-Object-clause-ok
returns-in-Some-Object-clause-ok g c = rw (c.in-Some-Object.is-0, c.in-Some-Object.is-1) (c.take_object.ensures.ok c.args.limits)

pub returns-in-Some-Object-clause-unsound : goal.returns-in-Some-Object-clause-unsound
returns-in-Some-Object-clause-unsound g c = rw (c.in-Some-Object.is-0, c.in-Some-Object.is-1) (λ bad. c.take_object.ensures.unsound bad c.args.limits)

pub returns-in-Some-Name-clause-ok : goal.returns-in-Some-Name-clause-ok
returns-in-Some-Name-clause-ok g c =
    let some = c.in-Some-Name in
    let n : Name = record { cookie = some.cookie; directory = some.directory; name = some.name.bytes.now; child = some.child } in
    rw (some.is-0, some.is-1) (name_taken c.name.result some.restoring n c.name.ensures.ok c.name.ensures.refused c.args.limits)

pub returns-in-Some-Name-clause-unsound : goal.returns-in-Some-Name-clause-unsound
returns-in-Some-Name-clause-unsound g c =
    let some = c.in-Some-Name in
    let n : Name = record { cookie = some.cookie; directory = some.directory; name = some.name.bytes.now; child = some.child } in
    rw (some.is-0, some.is-1) (λ bad. name_refused c.name.result some.restoring n c.name.ensures.taken bad c.args.limits)

pub returns-in-Some-Rest-clause-ok : goal.returns-in-Some-Rest-clause-ok
returns-in-Some-Rest-clause-ok g c =
    let some = c.in-Some-Rest in
    rw (some.is-0, some.is-1) (rest_taken c.more.result some.restoring some.number some.offset some.bytes.bytes.now c.more.ensures.ok c.more.ensures.refused c.args.limits)

pub returns-in-Some-Rest-clause-unsound : goal.returns-in-Some-Rest-clause-unsound
returns-in-Some-Rest-clause-unsound g c =
    let some = c.in-Some-Rest in
    rw (some.is-0, some.is-1) (λ bad. rest_refused c.more.result some.restoring some.number some.offset some.bytes.bytes.now c.more.ensures.taken bad c.args.limits)
