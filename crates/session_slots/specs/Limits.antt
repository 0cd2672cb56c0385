-- The limits of sessions and slots that no profile sets.
use Rattle.std.specs.Prelude.{ℕ}

-- slots of a session
abbrev pub MOST_SLOTS : ℕ
MOST_SLOTS = 8

-- bytes of a request, and of a reply
abbrev pub MOST_BYTES : ℕ
MOST_BYTES = 65536

-- the fewest bytes of a reply that a client may request
abbrev pub LEAST_REPLY : ℕ
LEAST_REPLY = 4096

-- bytes of the header of a reply, which isn't cached
abbrev pub REPLY_HEADER : ℕ
REPLY_HEADER = 24

-- bytes of results that are cached
abbrev pub MOST_RESULTS : ℕ
MOST_RESULTS = 65512

-- operations of a COMPOUND
abbrev pub MOST_OPERATIONS : ℕ
MOST_OPERATIONS = 16

-- how far a new call may be ahead of the last one of a slot that lags: 2 ^ 20
abbrev pub MOST_AHEAD : ℕ
MOST_AHEAD = 1048576

-- A slot is written after each call whose sequence ID is a multiple of this, whatever the call changed. It is 2 ^ 20,
-- which divides 2 ^ 32.
abbrev pub WRITTEN_EVERY : ℕ
WRITTEN_EVERY = 1048576

-- bytes of a client owner's ID, NFS4_OPAQUE_LIMIT (RFC 8881, section 3.1)
abbrev pub MOST_OWNER : ℕ
MOST_OWNER = 1024

-- 2 ^ 63: no client and no session has this number
abbrev pub END : ℕ
END = 9223372036854775808

-- EXCHGID4_FLAG_USE_NON_PNFS (RFC 8881, section 18.35)
abbrev pub USE_NON_PNFS : ℕ
USE_NON_PNFS = 65536

-- EXCHGID4_FLAG_UPD_CONFIRMED_REC_A (RFC 8881, section 18.35)
abbrev pub UPDATE_CONFIRMED : ℕ
UPDATE_CONFIRMED = 1073741824

-- EXCHGID4_FLAG_CONFIRMED_R (RFC 8881, section 18.35)
abbrev pub CONFIRMED : ℕ
CONFIRMED = 2147483648
