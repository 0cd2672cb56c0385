-- DESTROY_CLIENTID (RFC 8881, section 18.50): the record of a client without opens and sessions is removed.
use Rattle.std.specs.Prelude.{◌≡◌, Option, Result, OnOk, OnErr}
use Rattle.xdr_wire.specs.Xdr.{Value}
use Rattle.nfs_types.specs.declared.status.Status.{Status}
use Rattle.nfs_ops.specs.Forms.{destroy_clientid_args}
use Rattle.nfs_ops.specs.declared.OpKind.TheVariants as kinds
use Rattle.nfs_ops.specs.Results.{Outcome, Done}
use Rattle.session_slots.specs.Destroying.{destroy_client_refusal, without_client}
use Rattle.compound_run.specs.Realm.{Realm}
use Rattle.compound_run.specs.Questions.{result_unless}
use Rattle.compound_run.specs.Sessions.{has_opens, with_registry}

-- why a client isn't destroyed
abbrev pub client_refusal : Value destroy_clientid_args → Realm → Option Status
client_refusal v r = destroy_client_refusal r.registry v (has_opens v r.opens)

pub record DestroysClient (v : Value destroy_clientid_args) (old : Realm) (outcome : Result Outcome Status)
    (new : Realm) : Type 0 where
  pub outcome_is : outcome ≡ result_unless (client_refusal v old) (Done kinds.DestroyClientId tt)
  pub ok : OnOk outcome (new ≡ with_registry (without_client old.registry v) old)
  pub err : OnErr outcome (new ≡ old)
