-- A line of a trail's file, as the text of its notice and of its moment, which it may lack.
use Rattle.std.specs.Prelude.{◌≡◌, ℕ, List, ◌++◌, codes, decimal, take, drop, Option, Some, None}
use Rattle.access_guard.specs.Text.{line_text}
use Rattle.trail_keeper.specs.Dates.{IsMoment}
use Rattle.nfstrail.specs.declared.notice.Notice.{Notice}
use Rattle.nfstrail.specs.declared.notice.Notice.TheVariants.{Start, Lost, Kept}
use Rattle.nfstrail.specs.declared.notice.Stamped.{Stamped}

-- the text of a line after its moment: a start, the number of missing lines, or a line of the trail
abbrev pub notice_text : Notice → List ℕ
notice_text Start = codes "START"
notice_text (Lost count) = codes "LOST lines=" ++ decimal count
notice_text (Kept line) = line_text line

-- without a moment the text is that of the notice alone; else its first 21 bytes are the moment, and the others the
-- notice
abbrev pub IsTextSince : Option ℕ → Notice → List ℕ → Type 0
IsTextSince None notice text = notice_text notice ≡ text
IsTextSince (Some second) notice text = IsMoment second (take 21 text) × (notice_text notice ≡ drop 21 text)

abbrev pub IsTextOf : Stamped → List ℕ → Type 0
IsTextOf stamped text = IsTextSince stamped.second stamped.notice text
