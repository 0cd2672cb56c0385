-- The calls on clients and slots that are logged for a restart (RFC 8881, section 2.10.6.5).
use Rattle.std.specs.Prelude.{ℕ, ◌/◌, ◌==◌, Bool, false, not, is_some, Option, Some, None}
use Rattle.session_slots.specs.Counting.{last_number}
use Rattle.session_slots.specs.Limits.{MOST_AHEAD}
use Rattle.session_slots.specs.Creating.{cached_result}
use Rattle.session_slots.specs.Registry.{Client, Registry, client_at, place_at}
use Rattle.session_slots.specs.Slots.{Place, number_of}

-- the sequence ID of a slot passes a multiple of 2^20
abbrev pub passes : ℕ → ℕ → Bool
passes last number = not (last / MOST_AHEAD == number / MOST_AHEAD)

-- the sequence ID of the last call of a slot that may be absent; 0 if it has accepted none
abbrev pub last_of : Option Place → ℕ
last_of None = 0
last_of (Some p) = last_number number_of p.kept

abbrev pub last_at : Registry → ℕ → ℕ → ℕ
last_at r session slot = last_of (place_at r session slot)

abbrev pub is_created_of : Option Client → ℕ → Bool
is_created_of None sequence = false
is_created_of (Some c) sequence = is_some (cached_result c.created sequence)

-- a CREATE_SESSION of this client with this sequence ID is a retry of its last one
abbrev pub is_created : Registry → ℕ → ℕ → Bool
is_created r client sequence = is_created_of (client_at r client) sequence
