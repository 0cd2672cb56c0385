-- An operation evaluates its questions in order. Its outcome is the status of the first question that fails, else OK.
-- The decisions of its rows write lines into the trail, up to and including the first refusal (RFC 8881, sections 6.2.1
-- and 18).
use Rattle.std.specs.Prelude.{ℕ, Bool, true, ◌&&◌, if◌then◌else◌, List, [], ◌∷◌, ◌++◌, Option, Some, None, Result, Ok}
use Rattle.std.specs.Prelude.{Err}
use Rattle.rpc_record.specs.Identity.{Identity}
use Rattle.nfs_types.specs.declared.status.Status.{Status}
use Rattle.nfs_types.specs.declared.status.Status.TheVariants as statuses
use Rattle.access_rows.specs.declared.demand.Demand.{Demand}
use Rattle.access_guard.specs.declared.line.Line.{Line}
use Rattle.access_guard.specs.Lists.{Lists}
use Rattle.access_guard.specs.Decisions.{decision, is_granted}
use Rattle.access_guard.specs.Lines.{lines}
use Rattle.compound_run.specs.Faults.{IsFault, MayFault, first_fault}
use Rattle.compound_run.specs.Sight.{Sight}

pub data Question : Type 0 where
  -- the test holds, or the outcome is this status
  Holds : (Sight → Bool) → (status : Status) → IsFault status → Question
  -- the arguments have no fault in this sight, or the outcome is the fault
  Valid : (fault : Sight → Option Status) → ((s : Sight) → MayFault (fault s)) → Question
  -- the access control lists (ACLs) grant each demand that is present, or the outcome is ACCESS
  Row : (Sight → List (Option Demand)) → Question
  -- if the test holds, no further question is evaluated, and the outcome is OK
  Suffices : (Sight → Bool) → Question

-- a fault of the arguments alone, of the place or of the room
abbrev pub is_valid : (fault : Option Status) → MayFault fault → Question
is_valid fault may = Valid (λ s. fault) (λ s. may)

abbrev pub all_granted : Lists → Identity → List (Option Demand) → Bool
all_granted lists caller [] = true
all_granted lists caller (None ∷ demands) = all_granted lists caller demands
all_granted lists caller (Some d ∷ demands) = is_granted (decision lists caller d) && all_granted lists caller demands

-- the status of the first question that fails
abbrev pub failure : Identity → Sight → List Question → Option Status
failure caller s [] = None
failure caller s (Holds test status is ∷ questions) = if test s then failure caller s questions else Some status
failure caller s (Valid fault may ∷ questions) = first_fault (fault s) (failure caller s questions)
failure caller s (Row demands ∷ questions) =
    if all_granted s.lists caller (demands s) then failure caller s questions else Some statuses.Access
failure caller s (Suffices test ∷ questions) = if test s then None else failure caller s questions

-- the lines of demands, up to and including the first refusal
abbrev pub demand_lines : Lists → Identity → ℕ → List (Option Demand) → List Line
demand_lines lists caller op [] = []
demand_lines lists caller op (None ∷ demands) = demand_lines lists caller op demands
demand_lines lists caller op (Some d ∷ demands) =
    lines lists caller op d
    ++ (if is_granted (decision lists caller d) then demand_lines lists caller op demands else [])

-- these lines if the fault is none, else no lines
abbrev pub lines_unless : Option Status → List Line → List Line
lines_unless None lines = lines
lines_unless (Some status) lines = []

-- the lines of the questions of the operation of this number
abbrev pub trace : Identity → ℕ → Sight → List Question → List Line
trace caller op s [] = []
trace caller op s (Holds test status is ∷ questions) = if test s then trace caller op s questions else []
trace caller op s (Valid fault may ∷ questions) = lines_unless (fault s) (trace caller op s questions)
trace caller op s (Row demands ∷ questions) =
    demand_lines s.lists caller op (demands s)
    ++ (if all_granted s.lists caller (demands s) then trace caller op s questions else [])
trace caller op s (Suffices test ∷ questions) = if test s then [] else trace caller op s questions

-- the answer: the result, or the status of a refusal
abbrev pub result_unless : {R : Type 0} → Option Status → R → Result R Status
result_unless None result = Ok result
result_unless (Some status) result = Err status
