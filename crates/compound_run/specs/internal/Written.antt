-- The results of a COMPOUND, as the code writes them.
use Rattle.std.specs.Prelude.{◌≤◌, ℕ, ◌+◌, ◌-◌, List, ◌++◌, length, Option}
use Rattle.xdr_wire.specs.Buffer.{Appends}
use Rattle.nfs_types.specs.declared.status.Status.{Status}
use Rattle.compound_run.specs.declared.compound.Ended.{Ended}
use Rattle.compound_run.specs.declared.realm.Realm as realms
use Rattle.compound_run.specs.Limits.{REFUSAL_ROOM}
use Rattle.compound_run.specs.Compound.{Series, head}
use Rattle.compound_run.specs.Views.{Stage}
use Rattle.compound_run.specs.Written.{OpensTo}

-- The results are appended to the buffer. After a head they are the answer.
abbrev pub AppendsOpened : {A : Type 0} → Option Status → Series → Stage (realms.Realm A) → Ended
    → Stage (realms.Realm A) → Type 0
AppendsOpened fault s old end new =
    (results : List ℕ) × OpensTo fault s old.at (head end.status s.tag end.ran ++ results) new.at
    × Appends old.out new.out results × (length new.out.bytes ≤ length old.out.bytes + s.context.room + REFUSAL_ROOM)
