-- Which lines of a trail's file match the options.
use Rattle.std.specs.Prelude.{ℕ, Bool, true, ◌==◌, ◌&&◌, nat_le, is_none, Option, Some, None}
use Rattle.std.specs.Ordering.{nat_cmp}
use Rattle.std.specs.BTreeSet.{BTreeSet, contains}
use Rattle.access_guard.specs.declared.line.Line.{Line}
use Rattle.nfstrail.specs.declared.choice.Choice.{Choice}
use Rattle.nfstrail.specs.declared.notice.Notice.{Notice}
use Rattle.nfstrail.specs.declared.notice.Notice.TheVariants.{Start, Lost, Kept}
use Rattle.nfstrail.specs.declared.notice.Stamped.{Stamped}

-- a number matches if any does, or if it is this one
abbrev pub fits : Option ℕ → ℕ → Bool
fits None number = true
fits (Some asked) number = asked == number

-- an object is among the matching ones
abbrev pub is_among : Option (BTreeSet ℕ) → ℕ → Bool
is_among None object = true
is_among (Some objects) object = contains nat_cmp objects object

-- a moment isn't before the first second; an unknown one may be after it
abbrev pub is_since : Option ℕ → Option ℕ → Bool
is_since None second = true
is_since (Some first) None = true
is_since (Some first) (Some second) = nat_le first second

-- no user, operation or object is given
abbrev pub takes_all : Choice → Bool
takes_all c = is_none c.user && is_none c.op && is_none c.objects

abbrev pub takes_line : Choice → Line → Bool
takes_line c line = fits c.user line.uid && fits c.op line.op && is_among c.objects line.object

-- a start belongs to no user; missing lines may belong to any
abbrev pub takes_notice : Choice → Notice → Bool
takes_notice c Start = takes_all c
takes_notice c (Lost count) = true
takes_notice c (Kept line) = takes_line c line

abbrev pub takes : Choice → Stamped → Bool
takes c stamped = takes_notice c stamped.notice && is_since c.since stamped.second
