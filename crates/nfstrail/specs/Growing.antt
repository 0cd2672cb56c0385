-- What has become of a trail's file that is read as a server appends to it.
use Rattle.std.specs.Prelude.{ℕ, Bool, ◌==◌, ◌&&◌, nat_lt, if◌then◌else◌}
use Rattle.nfstrail.specs.declared.growing.Change.{Change}
use Rattle.nfstrail.specs.declared.growing.Change.TheVariants.{Same, Cut, Replaced}
use Rattle.nfstrail.specs.declared.growing.FileId.{FileId}

-- two numbers are those of one file
abbrev pub is_one_file : FileId → FileId → Bool
is_one_file a b = (a.device == b.device) && (a.node == b.node)

-- By the file that is read and the number of bytes that were read of it, and by the file that its name leads to now
-- and that file's length. A file that is shorter than what was read was cut.
abbrev pub change : FileId → ℕ → FileId → ℕ → Change
change read position found len =
    if is_one_file read found then (if nat_lt len position then Cut else Same) else Replaced
