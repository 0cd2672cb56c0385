-- The caller: the user and the groups of an AUTH_SYS credential (RFC 5531, appendix A).
use Rattle.std.specs.Prelude.{◌≡◌, ℕ, Bool, ◌==◌, ◌&&◌, nat_lt, if◌then◌else◌, nat_eq, List, [], ◌∷◌}
use Rattle.std.specs.List.Sorted.{IsStrictlyIncreasing}
use Rattle.std.specs.List.{list_any}
use Rattle.std.specs.Cmp.Lexicographic.{pointwise}

-- a user, its gid, and the set of the groups that it is a member of: each group once, by rising number
pub record Identity : Type 0 where
  pub uid : ℕ
  pub gid : ℕ
  pub groups : List ℕ

abbrev pub has_group : List ℕ → ℕ → Bool
has_group groups group = list_any (λ g. g == group) groups

abbrev pub is_member : Identity → ℕ → Bool
is_member caller group = has_group caller.groups group

-- The groups are the set of those that were sent: each of them, no other, each once, by rising number.
pub record IsSetOf (groups sent : List ℕ) : Type 0 where
  pub rising : IsStrictlyIncreasing groups
  pub members : (group : ℕ) → has_group groups group ≡ has_group sent group

-- the groups with one more at its place, unless they have it
abbrev pub with_group : ℕ → List ℕ → List ℕ
with_group group [] = group ∷ []
with_group group (g ∷ gs) =
    if nat_lt group g then group ∷ g ∷ gs else if group == g then g ∷ gs else g ∷ with_group group gs

-- the set of the groups that were sent
abbrev pub group_set : List ℕ → List ℕ
group_set [] = []
group_set (group ∷ sent) = with_group group (group_set sent)

-- the caller of a credential with this uid, this gid and these further groups
abbrev pub identity : ℕ → ℕ → List ℕ → Identity
identity uid gid further = record { uid = uid; gid = gid; groups = group_set (gid ∷ further) }

-- both have the same user, group and set of groups
abbrev pub is_same : Identity → Identity → Bool
is_same a b = (a.uid == b.uid) && (a.gid == b.gid) && pointwise nat_eq a.groups b.groups
