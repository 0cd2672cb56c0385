use Rattle.nfs_types.proofs.handle.Handle.object.Goals as goal

pub returns-in-Object : goal.returns-in-Object
returns-in-Object c = rw c.in-Object.is c.own.ensures
