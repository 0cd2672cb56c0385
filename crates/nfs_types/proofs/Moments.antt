-- The moment of seconds and nanoseconds.
use Rattle.std.proofs.Common.{◌≡◌, ◌<◌, ◌≤◌, ◌∙◌, ℕ, ℤ, Some, None, ap, inl, inr, ◌⊎◌, arith}
use Rattle.std.proofs.lemmas.Bool.{cases_lt}
use Rattle.std.specs.Coded.{le_prop}
use Rattle.xdr_wire.specs.Xdr.{Value}
use Rattle.nfs_types.specs.Forms.{time}
use Rattle.nfs_types.specs.MomentView.{moment_value, moment_in}
use Rattle.nfs_types.specs.declared.moment.Moment.{Moment}

-- two moments of the same numbers are equal, whatever proves their bound
one_moment : (z : ℤ) (n : ℕ) (few : n < 1000000000) (s : (n < 1000000000) ⊎ (1000000000 ≤ n)) →
    (let m : Moment = record { seconds = z; nanoseconds = n; is_fraction = few } in
    Some m ≡ elim s [ inl h ↦ Some (record { seconds = z; nanoseconds = n; is_fraction = h }) | inr h ↦ None ])
one_moment z n few (inl h) = ap (λ (p : n < 1000000000). let m : Moment = record { seconds = z; nanoseconds = n; is_fraction = p } in Some m) (le_prop few h)
one_moment z n few (inr h) = absurd (omega arith)

pub moment_made : (y z : ℤ) (n : ℕ) (few : n < 1000000000) → y ≡ z →
    (let m : Moment = record { seconds = y; nanoseconds = n; is_fraction = few } in Some m ≡ moment_in (z, n))
moment_made y z n few same =
    ap (λ (s : ℤ). let m : Moment = record { seconds = s; nanoseconds = n; is_fraction = few } in Some m) same
    ∙ one_moment z n few (cases_lt n 1000000000)

-- the value of a moment represents that moment
pub moment_again : (m : Moment) → Some m ≡ moment_in (moment_value m)
moment_again m = one_moment m.seconds m.nanoseconds m.is_fraction (cases_lt m.nanoseconds 1000000000)

value_by : (v : Value time) (m : Moment) (s : (v.1 < 1000000000) ⊎ (1000000000 ≤ v.1)) →
    elim s [ inl h ↦ Some (let n : Moment = record { seconds = v.0; nanoseconds = v.1; is_fraction = h } in n) | inr h ↦ None ] ≡ Some m → v ≡ moment_value m
value_by v m (inl few) is = let same : (let n : Moment = record { seconds = v.0; nanoseconds = v.1; is_fraction = few } in n) ≡ m = cc in ap moment_value same
value_by v m (inr many) is = absurd cc

-- a value that represents a moment is the value of that moment
pub value_of_moment : (v : Value time) (m : Moment) → moment_in v ≡ Some m → v ≡ moment_value m
value_of_moment v m is = value_by v m (cases_lt v.1 1000000000) is
