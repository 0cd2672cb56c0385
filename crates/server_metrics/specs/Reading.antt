-- Reading samples from a text of metrics.
use Rattle.std.specs.Prelude.{◌≡◌, ◌≢◌, ℕ, ◌+◌, ◌<◌, ◌^◌, ◌==◌, ◌&&◌, Bool, nat_eq, List, Option, None, IfSome}
use Rattle.std.specs.Prelude.{MatchOption}
use Rattle.std.specs.Prelude.{decimal, drop, find, length, option_map, slice_index}
use Rattle.std.specs.List.{starts_with}
use Rattle.std.specs.Str.Lines.{lines}
use Rattle.server_metrics.specs.Names.{name_of}
use Rattle.server_metrics.specs.Text.{seconds}
use Rattle.server_metrics.specs.declared.metric.Metric.{Metric}

-- a line is that of a series if the series and a space begin it
abbrev pub has_series : List ℕ → List ℕ → Bool
has_series line series = starts_with nat_eq line series && (slice_index line (length series) == 32)

-- the text after the series and the space, in the first line of the series
abbrev pub value_of : List ℕ → List ℕ → Option (List ℕ)
value_of text series =
    option_map (λ line. drop (length series + 1) line) (find (λ line. has_series line series) (lines text))

-- the number below 2 ^ 64 that a value writes in decimal digits, if it writes one
abbrev pub ReadsNumber : List ℕ → Option ℕ → Type 0
ReadsNumber value read = MatchOption read ((n : ℕ) → n < 2 ^ 64 → value ≢ decimal n) (λ n. value ≡ decimal n)

-- the number of a metric in a text, if the text has one
abbrev pub ReadsMetric : List ℕ → Metric → Option ℕ → Type 0
ReadsMetric text metric read =
    MatchOption (value_of text (name_of metric)) (read ≡ None) (λ value. ReadsNumber value read)

-- what is read are the microseconds of a metric that is in seconds
abbrev pub ReadsSeconds : List ℕ → Metric → Option ℕ → Type 0
ReadsSeconds text metric read =
    IfSome read (λ micros. MatchOption (value_of text (name_of metric)) ⊥ (λ value. value ≡ seconds micros))
