-- The log of the code: its bytes, and its room for more entries.
use Rattle.std.specs.Prelude.{◌≡◌, ◌≤◌, ℕ, List, length, Option, MatchOption}
use Rattle.std.specs.Option.{option_map, option_map_or}
use Rattle.xdr_wire.specs.Buffer.{Buffer}
use Rattle.log_entries.specs.Entries.{Called, Call, entry_bytes}
use Rattle.nfs_hub.specs.declared.log.Arrival.{Arrival as Lent}
use Rattle.nfs_hub.specs.Answer.{Arrival}

abbrev pub arrival_of : Lent → Arrival
arrival_of a = record { now = a.now; bytes = a.bytes.bytes.now }

-- the bytes of a log, if one is kept
abbrev pub bytes_of : Option Buffer → Option (List ℕ)
bytes_of log = option_map (λ w. w.bytes) log

-- the size of a log in bytes
abbrev pub log_size : Option (List ℕ) → ℕ
log_size log = option_map_or length log 0

-- `room` bytes fit, if a log is kept
abbrev pub HasRoom : ℕ → Option Buffer → Type 0
HasRoom room log = MatchOption log (Unit {0}) (λ w. room ≤ w.room)

-- the entry of a call fits, whatever its results are
abbrev pub HasRoomFor : Arrival → Option Buffer → Type 0
HasRoomFor a log = (c : Called) → c.bytes ≡ a.bytes → HasRoom (length (entry_bytes (Call c))) log
