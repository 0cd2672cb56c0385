-- Access control lists (ACLs) and the outcomes of operations (RFC 8881, sections 6.2.1 and 18).
use Rattle.std.specs.Prelude.{◌≡◌, ◌⊎◌, ℕ, true, false, List, [], ◌∷◌, ◌++◌, Option, Some, None, IsSome}
use Rattle.rpc_record.specs.Identity.{Identity}
use Rattle.access_rows.specs.declared.demand.Demand.{Demand}
use Rattle.access_guard.specs.declared.decision.Cause.{Cause}
use Rattle.access_guard.specs.declared.decision.Decision.TheVariants as decisions
use Rattle.access_guard.specs.declared.line.Line.{Line}
use Rattle.access_guard.specs.declared.line.LineKind.TheVariants.{Deny}
use Rattle.access_guard.specs.Lists.{Lists}
use Rattle.access_guard.specs.Decisions.{decision}
use Rattle.compound_run.specs.Sight.{Sight}
use Rattle.compound_run.specs.Questions.{Question, Holds, Valid, Row, Suffices, all_granted}

-- the question passes, and the next one is evaluated
abbrev pub Passes : Identity → Sight → Question → Type 0
Passes caller s (Holds test status is) = test s ≡ true
Passes caller s (Valid fault may) = fault s ≡ None
Passes caller s (Row demands) = all_granted s.lists caller (demands s) ≡ true
Passes caller s (Suffices test) = test s ≡ false

abbrev pub Fails : Identity → Sight → Question → Type 0
Fails caller s (Holds test status is) = test s ≡ false
Fails caller s (Valid fault may) = IsSome (fault s)
Fails caller s (Row demands) = all_granted s.lists caller (demands s) ≡ false
Fails caller s (Suffices test) = ⊥

-- each of these questions passes
abbrev pub ArePassed : Identity → Sight → List Question → Type 0
ArePassed caller s [] = Unit {0}
ArePassed caller s (q ∷ questions) = Passes caller s q × ArePassed caller s questions

-- the first of these questions that fails: those before it pass
abbrev pub FailsFirst : Identity → Sight → List Question → Question → Type 0
FailsFirst caller s [] f = ⊥
FailsFirst caller s (q ∷ questions) f =
    ((q ≡ f) × Fails caller s q) ⊎ (Passes caller s q × FailsFirst caller s questions f)

-- the first question that fails is a row of demands
pub record IsRefusedByRow (caller : Identity) (s : Sight) (questions : List Question) : Type 0 where
  pub demands : Sight → List (Option Demand)
  pub first : FailsFirst caller s questions (Row demands)

-- each question passes, up to a question that suffices
abbrev pub ArePassedOrSuffice : Identity → Sight → List Question → Type 0
ArePassedOrSuffice caller s [] = Unit {0}
ArePassedOrSuffice caller s (Holds test status is ∷ questions) = (test s ≡ true) × ArePassedOrSuffice caller s questions
ArePassedOrSuffice caller s (Valid fault may ∷ questions) = (fault s ≡ None) × ArePassedOrSuffice caller s questions
ArePassedOrSuffice caller s (Row demands ∷ questions) =
    (all_granted s.lists caller (demands s) ≡ true) × ArePassedOrSuffice caller s questions
ArePassedOrSuffice caller s (Suffices test ∷ questions) =
    (test s ≡ true) ⊎ ((test s ≡ false) × ArePassedOrSuffice caller s questions)

-- a demand of a row; the demands before it are granted
abbrev pub IsReached : Lists → Identity → Demand → List (Option Demand) → Type 0
IsReached lists caller demand [] = ⊥
IsReached lists caller demand (None ∷ demands) = IsReached lists caller demand demands
IsReached lists caller demand (Some d ∷ demands) =
    (demand ≡ d) ⊎ ((decision lists caller d ≡ decisions.Granted) × IsReached lists caller demand demands)

-- The last line is the DENY line of the first demand of the row that the ACLs refuse. It names the object and the mask
-- bits demanded of it. It also names the first access control entry (ACE) that denies the demand, else the lowest bit
-- that no ACE allows.
pub record EndsInRefusal (caller : Identity) (op : ℕ) (lists : Lists) (demands : List (Option Demand))
    (lines : List Line) : Type 0 where
  pub demand : Demand
  pub reached : IsReached lists caller demand demands
  pub object : ℕ
  pub mask : ℕ
  pub cause : Cause
  pub before : List Line
  pub refused : decision lists caller demand ≡ decisions.Refused object mask cause
  pub lines_are : lines
      ≡ before
      ++ record {
        kind = Deny;
        uid = caller.uid;
        op = op;
        object = object;
        mask = mask;
        granted = false;
        cause = cause;
      }
      ∷ []
