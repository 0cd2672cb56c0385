-- Which counts are reported as near their limits.
use Rattle.std.specs.Prelude.{◌*◌, ℕ, Bool, not, nat_le, nat_lt, if◌then◌else◌}
use Rattle.nfsd.specs.declared.near_limits.Level.{Level}
use Rattle.nfsd.specs.declared.near_limits.Level.TheVariants.{Low, High, Critical, Full}

-- at least this number of hundredths of a limit is in use
abbrev pub reaches : ℕ → ℕ → ℕ → Bool
reaches hundredths used limit = nat_le (hundredths * limit) (100 * used)

-- the level of a count
abbrev pub level_of : ℕ → ℕ → Level
level_of used limit =
    if reaches 100 used limit then Full
    else if reaches 95 used limit then Critical
    else if reaches 80 used limit then High
    else Low

abbrev pub rank : Level → ℕ
rank Low = 0
rank High = 1
rank Critical = 2
rank Full = 3

-- a count is reported where its level is above the one that was reported last
abbrev pub is_due : Level → ℕ → ℕ → Bool
is_due reported used limit = nat_lt (rank reported) (rank (level_of used limit))

-- the level that was reported last, after a count: it is low again once less than 75 hundredths are in use
abbrev pub reported_after : Level → ℕ → ℕ → Level
reported_after reported used limit =
    if not (reaches 75 used limit) then Low
    else if is_due reported used limit then level_of used limit
    else reported
