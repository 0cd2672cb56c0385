-- The answer of the code, as it reports an outcome.
use Rattle.std.specs.Prelude.{◌≡◌, Bool, true, false, Result, Ok, Err}
use Rattle.nfs_types.specs.declared.status.Status.{Status}
use Rattle.nfs_types.specs.declared.status.Status.TheVariants as statuses
use Rattle.nfs_ops.specs.Results.{Outcome}

abbrev pub is_delay_status : Status → Bool
is_delay_status statuses.Delay = true
is_delay_status _ = false

abbrev pub is_delay : {A : Type 0} → Result A Status → Bool
is_delay (Ok value) = false
is_delay (Err status) = is_delay_status status

-- the answer reports that the outcome is OK, or its status
abbrev pub IsAnswerOf : {A : Type 0} → Result A Status → Result Outcome Status → Type 0
IsAnswerOf (Ok done) (Ok outcome) = Unit {0}
IsAnswerOf (Ok done) (Err status) = ⊥
IsAnswerOf (Err answer) (Ok outcome) = ⊥
IsAnswerOf (Err answer) (Err status) = answer ≡ status
