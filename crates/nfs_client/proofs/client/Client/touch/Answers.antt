use Rattle.std.proofs.Common.{subst}
use Rattle.nfs_types.specs.Seen.{Seen}
use Rattle.nfs_client.specs.Access.{NoPath}
use Rattle.nfs_client.specs.ChOwn.{SetAsks}
use Rattle.nfs_client.specs.Walking.{CommandGives}
use Rattle.nfs_client.proofs.client.Client.touch.Goals as goal

pub returns-clause-gives : goal.returns-clause-gives
returns-clause-gives g c =
    subst (λ (s : Seen). CommandGives g.S.Transport.talks (SetAsks s c.args.path.now) (NoPath c.args.path.now) c.args.self.now c.set_attributes.new.self c.set_attributes.result)
    c.of_times-attributes.ensures c.set_attributes.ensures
