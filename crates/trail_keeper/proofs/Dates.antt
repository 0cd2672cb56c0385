-- Days of years and months.
use Rattle.std.proofs.Common.{◌≡◌, ◌≤◌, ◌+◌, ℕ, Bool, true, false, suc, refl, ap, arith}
use Rattle.trail_keeper.specs.Dates.{is_leap, month_length, months_length, year_length, years_length}

pub long_years : (leap : Bool) → 365 ≤ year_length leap
long_years true = omega arith
long_years false = omega arith

pub one_year : (n : ℕ) → years_length (n + 1) ≡ years_length n + year_length (is_leap (1970 + n))
one_year n = let e : n + 1 ≡ suc n = omega arith in ap years_length e

pub one_month : (leap : Bool) (n : ℕ) → months_length leap (n + 1) ≡ months_length leap n + month_length leap (n + 1)
one_month leap n =
    let e : n + 1 ≡ suc n = omega arith in
    rw e refl

-- the last month is December, which has 31 days
pub december : (leap : Bool) → months_length leap 11 + 31 ≡ year_length leap
december true = refl
december false = refl
