-- A client that is expired, as courteous servers do: its lease ended long ago, and its room is needed (RFC 8881,
-- section 8.3).
use Rattle.std.specs.Prelude.{ℕ, Some}
use Rattle.session_slots.specs.Registry.{Registry, without_record, without_sessions}

-- the registry without a client's record and its sessions
abbrev pub expire : ℕ → Registry → Registry
expire client r = record r {
  clients = without_record (Some client) r.clients;
  sessions = without_sessions (Some client) r.sessions;
}
