-- RECLAIM_COMPLETE (RFC 8881, section 18.51): the client of the session has finished its reclaims. For one file system,
-- that of the current filehandle, nothing changes.
use Rattle.std.specs.Prelude.{Bool, true, false, if◌then◌else◌, List, [], ◌∷◌, Option, Some, None}
use Rattle.xdr_wire.specs.Xdr.{Value}
use Rattle.nfs_types.specs.declared.status.Status.TheVariants as statuses
use Rattle.nfs_ops.specs.Forms.{reclaim_complete_args}
use Rattle.nfs_ops.specs.declared.OpKind.TheVariants as kinds
use Rattle.nfs_ops.specs.Rows.{row}
use Rattle.nfs_ops.specs.Results.{Done}
use Rattle.session_slots.specs.Registry.{Client}
use Rattle.session_slots.specs.Destroying.{complete_already, with_reclaimed}
use Rattle.compound_run.specs.declared.filehandles.FileHandles.{FileHandles}
use Rattle.compound_run.specs.Realm.{Realm}
use Rattle.compound_run.specs.Context.{Context}
use Rattle.compound_run.specs.Faults.{MayFault}
use Rattle.compound_run.specs.Sight.{client_in}
use Rattle.compound_run.specs.Questions.{Question, Valid}
use Rattle.compound_run.specs.Stateids.{client_of}
use Rattle.compound_run.specs.Sessions.{with_registry}
use Rattle.compound_run.specs.Meaning.{Meaning, with_handle}

pub complete_may : (client : Option Client) → MayFault (complete_already client)
complete_may None = tt
complete_may (Some c) = of c.reclaimed
  where
    of : (b : Bool) → MayFault (if b then Some statuses.CompleteAlready else None)
    of true = tt
    of false = tt

-- the client hasn't sent it yet
abbrev pub is_first : Context → Question
is_first c =
    Valid (λ s. complete_already (client_in s (client_of c))) (λ s. complete_may (client_in s (client_of c)))

abbrev pub reclaim_questions : Value reclaim_complete_args → Context → FileHandles → List Question
reclaim_questions one_fs c h = if one_fs then with_handle h.current [] else is_first c ∷ []

abbrev pub reclaimed : Value reclaim_complete_args → Context → Realm → Realm
reclaimed one_fs c r = if one_fs then r else with_registry (with_reclaimed r.registry (client_of c)) r

abbrev pub reclaim_complete : Value reclaim_complete_args → Context → FileHandles → Meaning
reclaim_complete one_fs c h = record {
  number = (row kinds.ReclaimComplete).number;
  caller = c.caller;
  questions = reclaim_questions one_fs c h;
  answer = λ s. Done kinds.ReclaimComplete tt;
  effect = reclaimed one_fs c;
  goes = λ s. h;
}
