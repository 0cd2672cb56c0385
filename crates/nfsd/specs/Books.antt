-- When the file of the book is read again, which book follows the one before, and when a home is served.
use Rattle.std.specs.Prelude.{◌&&◌, ◌||◌, ◌==◌, ◌-ℤ◌, ℤ, Bool, true, false, not, unsigned_abs, nat_le, if◌then◌else◌}
use Rattle.std.specs.Prelude.{Option, Some, None}
use Rattle.std.specs.Ordering.{int_eq}
use Rattle.nfsd.specs.declared.book_rule.Change.{Change}
use Rattle.nfsd.specs.declared.book_rule.Change.TheVariants.{Moved, Written}
use Rattle.nfsd.specs.declared.book_rule.FileId.{FileId}
use Rattle.nfsd.specs.declared.book_rule.FileTime.{FileTime}
use Rattle.nfsd.specs.declared.book_rule.Plan.{Plan}
use Rattle.nfsd.specs.declared.book_rule.Plan.TheVariants.{Load, Stay, Wait}
use Rattle.nfsd.specs.declared.book_rule.Stamp.{Stamp}
use Rattle.nfsd.specs.declared.book_rule.Start.{Start}
use Rattle.nfsd.specs.declared.book_rule.Start.TheVariants.{Read, Await, Refuse}

-- two numbers are those of one file
abbrev pub is_one_file : FileId → FileId → Bool
is_one_file a b = (a.device == b.device) && (a.node == b.node)

-- two times of a file are one, to the nanosecond
abbrev pub is_one_time : FileTime → FileTime → Bool
is_one_time a b = int_eq a.seconds b.seconds && int_eq a.nanoseconds b.nanoseconds

-- nothing of the file has changed since it had this stamp
abbrev pub is_unchanged : Stamp → Stamp → Bool
is_unchanged a b =
    is_one_file a.id b.id && (is_one_time a.written b.written && is_one_time a.changed b.changed) && (a.len == b.len)

-- A time isn't two seconds ago yet, by whole seconds of the clock. A time further ahead of the clock
-- is another clock's.
abbrev pub is_near : ℤ → FileTime → Bool
is_near now time = nat_le (unsigned_abs (now -ℤ time.seconds)) 2

-- The last write isn't two seconds ago yet, or the last change of anything about the file isn't. The
-- time of a write can be set, and that of a change can't.
abbrev pub is_fresh : ℤ → Stamp → Bool
is_fresh now stamp = is_near now stamp.written || is_near now stamp.changed

-- by the stamp of the file that was read last, the stamp of the file now, and the second of the clock
abbrev pub plan : Option Stamp → Stamp → ℤ → Plan
plan None seen now = Load Moved
plan (Some last) seen now =
    if is_unchanged last seen then Stay
    else if not (is_one_file last.id seen.id) then Load Moved
    else if is_fresh now seen then Wait
    else Load Written

-- A book that was written in place of one with `members` follows only if it has them too.
abbrev pub may_follow : Change → Bool → Bool → Bool
may_follow Moved had has = true
may_follow Written had has = not had || has

-- By whether a home has a book, and whether it had one before: a home that had one isn't served without it.
abbrev pub start : Bool → Bool → Start
start true had = Read
start false true = Refuse
start false false = Await
