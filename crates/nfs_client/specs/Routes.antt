-- The start of a walk, and its remaining names. A session takes 16 operations in a COMPOUND, and SEQUENCE is one of
-- them.
use Rattle.std.specs.Prelude.{ℕ, ◌+◌, nat_le, if◌then◌else◌, List, [], ◌∷◌, ◌++◌, take, drop}
use Rattle.nfs_ops.specs.Operations.{Operation, Known}
use Rattle.nfs_ops.specs.declared.OpKind.TheVariants as kinds
use Rattle.nfs_client.specs.Commands.{sequence, lookups}
use Rattle.nfs_client.specs.declared.client.Client.{Client}

-- ---- how many names

-- the most names between the start of a walk and one operation
abbrev pub most_names : ℕ
most_names = 13

-- the most names between the start and two operations, as OPEN and GETFH
abbrev pub most_before_two : ℕ
most_before_two = 12

-- the most names of two paths together, with the start of each, SAVEFH between them and one operation after them
abbrev pub most_of_both : ℕ
most_of_both = 11

-- The most names of the first of two paths that may remain at the end of its approaches. The paths have `names` and
-- `others` names. If one COMPOUND can walk both paths, no approach is made. Else the first is walked to its end, before
-- a name of the second is.
abbrev pub left_of_first : ℕ → ℕ → ℕ
left_of_first names others = if nat_le (names + others) most_of_both then most_of_both else 0

-- ---- routes

-- the root, or the object of a filehandle
pub data Start : Type 0 where
  Root : Start
  Object : List ℕ → Start

pub record Route : Type 0 where
  pub start : Start
  pub names : List (List ℕ)

abbrev pub from_root : List (List ℕ) → Route
from_root names = record { start = Root; names = names }

-- PUTROOTFH, or PUTFH of a filehandle
abbrev pub begins : Start → Operation
begins Root = Known kinds.PutRootFh tt
begins (Object handle) = Known kinds.PutFh handle

-- from the start of a walk along the remaining names
abbrev pub walk : Route → List Operation
walk route = begins route.start ∷ lookups route.names

-- the first names of a route
abbrev pub near : Route → Route
near route = record { start = route.start; names = take most_names route.names }

-- the route after the first names, which end at the object of this filehandle
abbrev pub far : Route → List ℕ → Route
far route handle = record { start = Object handle; names = drop most_names route.names }

-- the rest of a path's route after walks of its first names that ended at these filehandles, the last first
abbrev pub route_after : List (List ℕ) → List (List ℕ) → Route
route_after names [] = from_root names
route_after names (handle ∷ before) = far (route_after names before) handle

-- an operation at the end of a route
abbrev pub along : {S A : Type 0} → Client S A → Route → Operation → List Operation
along client route op = sequence client ∷ walk route ++ op ∷ []
