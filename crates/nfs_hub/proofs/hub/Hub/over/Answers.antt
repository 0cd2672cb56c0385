use Rattle.std.proofs.Common.{rules, refl}
use Rattle.nfs_hub.specs.Machine.{opening}
use Rattle.nfs_hub.proofs.hub.Hub.over.Goals as goal

-- no event has happened, and no connection is open
pub returns : goal.returns
returns g c = record {
  state = opening c.args.service;
  extends = refl;
  is = record { served = refl; next = refl; connections = λ id. search rules };
}
