use Rattle.nfs_client.proofs.client.Client.answered.Goals as goal

pub returns-in-Ln : goal.returns-in-Ln
returns-in-Ln g c = rw c.in-Ln.is (c.ln.result, c.ln.ensures.gives, c.done-in-Ln.ensures)

pub returns-in-Mv : goal.returns-in-Mv
returns-in-Mv g c = rw c.in-Mv.is (c.mv.result, c.mv.ensures.gives, c.done-in-Mv.ensures)

pub returns-in-ChMod : goal.returns-in-ChMod
returns-in-ChMod g c = rw c.in-ChMod.is (c.chmod.result, c.chmod.ensures.gives, c.done-in-ChMod.ensures)

pub returns-in-GetAcl : goal.returns-in-GetAcl
returns-in-GetAcl g c = rw c.in-GetAcl.is (c.get_acl.result, c.get_acl.ensures.gives, c.lines-in-GetAcl.ensures)

pub returns-in-SetAcl : goal.returns-in-SetAcl
returns-in-SetAcl g c = rw c.in-SetAcl.is (c.set_list.result, c.set_list.ensures.gives, c.done-in-SetAcl.ensures)

pub returns-in-Put : goal.returns-in-Put
returns-in-Put g c = rw c.in-Put.is (c.put.result, c.put.ensures.gives, c.done.ensures)
