-- The attributes that a client requests (RFC 8881, sections 5.5, 18.7 and 18.23).
use Rattle.std.specs.Prelude.{ℕ, Bool, true, false, if◌then◌else◌, List, Option, Some, None}
use Rattle.nfs_types.specs.Attributes.{has_set_only, supported_words}
use Rattle.nfs_types.specs.Common.{common}
use Rattle.nfs_types.specs.Forms.{trimmed}
use Rattle.nfs_types.specs.declared.status.Status.{Status}
use Rattle.nfs_types.specs.declared.status.Status.TheVariants as statuses
use Rattle.compound_run.specs.Context.{Context}
use Rattle.compound_run.specs.Faults.{MayFault}
use Rattle.compound_run.specs.Questions.{Question, is_valid}

-- the requested attributes that the profile supports; the others are ignored
abbrev pub requested_in : (times : Bool) → List ℕ → List ℕ
requested_in times set = trimmed (common set (supported_words times))

abbrev pub requested : Context → List ℕ → List ℕ
requested c set = requested_in c.times set

-- an attribute that can only be set can't be requested
abbrev pub set_only_fault : List ℕ → Option Status
set_only_fault set = if has_set_only set then Some statuses.Inval else None

pub set_only_may : (set : List ℕ) → MayFault (set_only_fault set)
set_only_may set = of (has_set_only set)
  where
    of : (b : Bool) → MayFault (if b then Some statuses.Inval else None)
    of true = tt
    of false = tt

abbrev pub is_readable : List ℕ → Question
is_readable set = is_valid (set_only_fault set) (set_only_may set)
