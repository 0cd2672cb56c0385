-- The release that the programs report.
use Rattle.std.specs.Prelude.{ℕ, List, codes}

-- the start of each report: the product and its version
abbrev pub release : List ℕ
release = codes "(Zoclesavory) 0.9, "
