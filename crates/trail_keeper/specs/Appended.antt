-- The text that is appended for the lines of a trail after the first of them. Each line has the same prefix: none, or a
-- time.
use Rattle.std.specs.Prelude.{ℕ, ◌-◌, ◌==◌, if◌then◌else◌, List, [], ◌∷◌, ◌++◌, length, drop, codes, decimal, Option}
use Rattle.std.specs.Prelude.{Some, None}
use Rattle.std.specs.List.{flat_map}
use Rattle.access_guard.specs.Log.{Log}
use Rattle.access_guard.specs.Text.{line_text}
use Rattle.access_guard.specs.declared.line.Line.{Line}

-- a line, with a newline
abbrev pub line_bytes : List ℕ → Line → List ℕ
line_bytes prefix line = prefix ++ line_text line ++ 10 ∷ []

abbrev pub text_of : List ℕ → List Line → List ℕ
text_of prefix lines = flat_map (line_bytes prefix) lines

-- the lines after the seen ones, as far as the trail keeps them
abbrev pub new_lines : ℕ → Log → List Line
new_lines seen log = drop (length log.trail - (log.total - seen)) log.trail

-- the number of lines after the seen ones that the trail no longer keeps
abbrev pub lost_lines : ℕ → Log → ℕ
lost_lines seen log = (log.total - seen) - length log.trail

-- n lines are missing
abbrev pub lost_text : List ℕ → ℕ → List ℕ
lost_text prefix n = if n == 0 then [] else prefix ++ codes "LOST lines=" ++ decimal n ++ 10 ∷ []

-- the number of missing lines, and then each line that is kept, in order
abbrev pub new_text : List ℕ → ℕ → Log → List ℕ
new_text prefix seen log = lost_text prefix (lost_lines seen log) ++ text_of prefix (new_lines seen log)

-- the line of a start
abbrev pub start_text : List ℕ → List ℕ
start_text prefix = prefix ++ codes "START" ++ 10 ∷ []

-- a newline if bytes that end in this one leave a line unfinished
abbrev pub line_end : Option ℕ → List ℕ
line_end None = []
line_end (Some last) = if last == 10 then [] else 10 ∷ []
