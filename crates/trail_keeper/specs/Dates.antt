-- Dates of the Gregorian calendar from 1970 on, and the text of a time in UTC, as in 2026-11-26T20:28:01Z.
use Rattle.std.specs.Prelude.{◌≡◌, ◌≤◌, ◌+◌, ◌-◌, ◌/◌, ◌%◌, ◌==◌, ◌&&◌, ◌||◌, not, ℕ, ℤ, pos, negsuc, Bool, zero, suc}
use Rattle.std.specs.Prelude.{if◌then◌else◌, List, [], ◌∷◌, ◌++◌, min}
use Rattle.trail_keeper.specs.declared.date.Date.{Date}

abbrev pub is_leap : ℕ → Bool
is_leap year = (year % 4 == 0) && (not (year % 100 == 0) || (year % 400 == 0))

-- the number of days of a year, by whether it is a leap year
abbrev pub year_length : Bool → ℕ
year_length leap = if leap then 366 else 365

-- the number of days of a month; the first month is 1
abbrev pub month_length : Bool → ℕ → ℕ
month_length leap month =
    if month == 2 then (if leap then 29 else 28)
    else if (month == 4) || (month == 6) || (month == 9) || (month == 11) then 30
    else 31

-- the number of days of the first years from 1970 on
abbrev pub years_length : ℕ → ℕ
years_length zero = 0
years_length (suc n) = years_length n + year_length (is_leap (1970 + n))

-- the number of days of the first months of a year
abbrev pub months_length : Bool → ℕ → ℕ
months_length leap zero = 0
months_length leap (suc n) = months_length leap n + month_length leap (suc n)

-- the date of the day `days` days after 1 January 1970
pub record IsDate (days : ℕ) (date : Date) : Type 0 where
  pub year : 1970 ≤ date.year
  pub first_month : 1 ≤ date.month
  pub last_month : date.month ≤ 12
  pub first_day : 1 ≤ date.day
  pub last_day : date.day ≤ month_length (is_leap date.year) date.month
  pub counted : (years_length (date.year - 1970) + months_length (is_leap date.year) (date.month - 1))
      + (date.day - 1)
      ≡ days

-- two decimal digits
abbrev pub two : ℕ → List ℕ
two n = (48 + n / 10) ∷ (48 + n % 10) ∷ []

-- the text of a second of a day, with a space after it
abbrev pub moment_text : Date → ℕ → List ℕ
moment_text date second =
    two (date.year / 100) ++ two (date.year % 100) ++ 45 ∷ two date.month ++ 45 ∷ two date.day ++ 84
    ∷ two (second / 3600) ++ 58 ∷ two (second / 60 % 60)
    ++ 58 ∷ two (second % 60) ++ 90 ∷ 32 ∷ []

-- the seconds since 1970 that are written: 0 for a time before 1970, and at most those before day 2,930,950, in the
-- year 9994
abbrev pub written_second : ℤ → ℕ
written_second (pos n) = min n 253234079999
written_second (negsuc n) = 0

-- the text is that of the time `second` seconds after the start of 1970
abbrev pub IsMoment : ℕ → List ℕ → Type 0
IsMoment second text = (date : Date) × IsDate (second / 86400) date × (text ≡ moment_text date (second % 86400))
