-- The answer to a caller depends on the caller's view only.
use Rattle.std.specs.Prelude.{◌≡◌, List, Result, ℕ}
use Rattle.xdr_wire.specs.Xdr.{Value}
use Rattle.rpc_record.specs.Identity.{Identity}
use Rattle.nfs_types.specs.declared.status.Status.{Status}
use Rattle.nfs_ops.specs.Forms.{sequence_args}
use Rattle.nfs_ops.specs.Operations.{Operation}
use Rattle.nfs_ops.specs.Parts.{sequence_session, sequence_slot}
use Rattle.nfs_ops.specs.Results.{Outcome}
use Rattle.session_slots.specs.Registry.{results_at}
use Rattle.access_guard.specs.declared.line.Line.{Line}
use Rattle.compound_run.specs.Realm.{Realm}
use Rattle.compound_run.specs.Sight.{Sight, whole, view}
use Rattle.compound_run.specs.Questions.{failure, trace, result_unless}
use Rattle.compound_run.specs.Meaning.{Meaning}
use Rattle.compound_run.specs.Sessions.{session_of}
use Rattle.compound_run.specs.State.{Call}
use Rattle.compound_run.specs.InSession.{ActsAlone, begin_in, begun_in}

-- the outcome with its result, and the lines
abbrev pub observed : Meaning → Sight → Result Outcome Status × List Line
observed m s = (result_unless (failure m.caller s m.questions) (m.answer s), trace m.caller m.number s m.questions)

-- if two realms look alike to the caller, the answers are equal, with equal lines
abbrev pub DisclosesNothing : Meaning → Type 0
DisclosesNothing m = (q r : Realm) → view q m.caller ≡ view r m.caller → observed m (whole q) ≡ observed m (whole r)

-- ---- operations that act on clients and sessions, and see nothing of the world

-- clients, sessions and open files are equal, whatever the worlds are, and sessions are persistent in both or in
-- neither
pub record KnowAlike (q r : Realm) : Type 0 where
  pub registry : q.registry ≡ r.registry
  pub opens : q.opens ≡ r.opens
  pub lasting : q.lasting ≡ r.lasting

-- An operation that is the only one of its COMPOUND has an equal result in each realm with equal clients, sessions and
-- open files. These are equal afterwards.
abbrev pub DisclosesNothingAlone : Identity → Operation → Type 0
DisclosesNothingAlone caller op =
    (q r new : Realm) (outcome : Result Outcome Status) → KnowAlike q r → ActsAlone caller op q outcome new
    → ActsAlone caller op r outcome (record r { registry = new.registry; opens = new.opens })

-- SEQUENCE has equal answers and equal cached results, and begins the call alike
abbrev pub BeginsAlike : Call → ℕ → Value sequence_args → List ℕ → Type 0
BeginsAlike call count v operations =
    (q r : Realm) → KnowAlike q r → (begin_in q call count v operations ≡ begin_in r call count v operations)
    × (begun_in q call count v operations ≡ begun_in r call count v operations)
    × (results_at q.registry (session_of (sequence_session v)) (sequence_slot v)
    ≡ results_at r.registry (session_of (sequence_session v)) (sequence_slot v))
