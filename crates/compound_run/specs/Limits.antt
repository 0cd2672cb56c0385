-- The limits of a COMPOUND (RFC 8881, sections 2.10.6 and 16.2), in bytes unless another unit is given.
use Rattle.std.specs.Prelude.{ℕ, ◌-◌}

-- the most bytes of a tag
abbrev pub MAX_TAG : ℕ
MAX_TAG = 1024

-- the one minor version that is supported
abbrev pub MINOR_VERSION : ℕ
MINOR_VERSION = 1

-- the most operations that a COMPOUND without a session may have
abbrev pub MAX_OPERATIONS : ℕ
MAX_OPERATIONS = 16

-- the most bytes of a reply without a session, not counting its record mark
abbrev pub MAX_REPLY : ℕ
MAX_REPLY = 65536

-- the bytes of the header of a reply to a COMPOUND
abbrev pub REPLY_HEADER : ℕ
REPLY_HEADER = 24

-- the most bytes of the results in a reply
abbrev pub MAX_RESULTS : ℕ
MAX_RESULTS = MAX_REPLY - REPLY_HEADER

-- the least room that an operation runs in: no result of an operation that changes the tree is longer
abbrev pub MIN_ROOM : ℕ
MIN_ROOM = 256

-- the room that each reply reserves for the result of a refused operation
abbrev pub REFUSAL_ROOM : ℕ
REFUSAL_ROOM = 16

-- the most bytes that a READ returns
abbrev pub MAX_READ : ℕ
MAX_READ = 32768

-- the most bytes of an open-owner
abbrev pub MAX_OWNER : ℕ
MAX_OWNER = 1024
