-- The largest number of bytes of a result with its number and its status. No operation's meaning depends on it, but
-- contracts do: with as much room a result is written.
use Rattle.std.specs.Prelude.{ℕ, ◌+◌, ◌*◌, ◌&&◌, Bool, true, false, length}
use Rattle.xdr_wire.specs.Xdr.{Xdr, void, uint, hyper, boolean, fixed, opaque, pair, array, union, arm, no_more}
use Rattle.nfs_ops.specs.Forms.{with_padding, getattr_size, read_size, readdir_size, readlink_size}
use Rattle.nfs_ops.specs.Rows.{row}
use Rattle.nfs_ops.specs.Results.{Outcome, Done, Refused, SetAttrRefused}
use Rattle.nfs_ops.specs.declared.OpKind.TheVariants.{GetAttr, Read, ReadDir, ReadLink}

-- the largest number of bytes of a value of a form that has a bound; 0 for any other form
abbrev pub greatest : Xdr → ℕ
greatest uint = 4
greatest hyper = 8
greatest boolean = 4
greatest (fixed n) = with_padding n
greatest (opaque max) = 4 + with_padding max
greatest (pair s t) = greatest s + greatest t
greatest (array max uint) = 4 + 4 * max
greatest (union (arm n void no_more)) = 4
greatest _ = 0

-- whether a form has a bound
abbrev pub has_bound : Xdr → Bool
has_bound void = true
has_bound uint = true
has_bound hyper = true
has_bound boolean = true
has_bound (fixed n) = true
has_bound (opaque max) = true
has_bound (pair s t) = has_bound s && has_bound t
has_bound (array max uint) = true
has_bound (union (arm n void no_more)) = true
has_bound _ = false

-- the largest number of bytes of a result that is only its number and its status
abbrev pub plain_size : ℕ
plain_size = 8

-- and of one that has the count of a bitmap without words too
abbrev pub setattr_refused_size : ℕ
setattr_refused_size = 12

-- The largest number of bytes of a result of any operation that can change the tree. With as much room the operation
-- runs, and its result can be sent.
abbrev pub change_size : ℕ
change_size = 256

-- bytes whose number an object or a request decides count in full
abbrev pub most : Outcome → ℕ
most (Done GetAttr v) = getattr_size (length v.0) (length v.1)
most (Done Read v) = read_size (length v.1)
most (Done ReadDir v) = readdir_size v.1.0
most (Done ReadLink v) = readlink_size (length v)
most (Done k v) = plain_size + greatest (row k).gives.form
most (Refused n status) = plain_size
most (SetAttrRefused status) = setattr_refused_size

-- the results whose size an object or a request decides: they have exactly this many bytes
abbrev pub carries_bytes : Outcome → Bool
carries_bytes (Done GetAttr v) = true
carries_bytes (Done Read v) = true
carries_bytes (Done ReadDir v) = true
carries_bytes (Done ReadLink v) = true
carries_bytes _ = false

-- the operation can change the tree, and is OK
abbrev pub is_change : Outcome → Bool
is_change (Done k v) = (row k).changes
is_change _ = false

-- the operation has another status than OK
abbrev pub is_refusal : Outcome → Bool
is_refusal (Done k v) = false
is_refusal _ = true
