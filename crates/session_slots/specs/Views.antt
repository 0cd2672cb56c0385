-- The arguments of calls, and stored state, as the definitions see them.
use Rattle.std.specs.Prelude.{ℕ, List, ◌++◌}
use Rattle.session_slots.specs.declared.call_bytes.CallBytes.{CallBytes}
use Rattle.session_slots.specs.declared.session.Sequence.{Sequence}
use Rattle.session_slots.specs.declared.exchanging.Exchange.{Exchange}
use Rattle.session_slots.specs.Exchanging.{Exchanging}
use Rattle.session_slots.specs.declared.client.Record.{Record}
use Rattle.session_slots.specs.Registry.{Client}
use Rattle.session_slots.specs.Slots.{Call, Cached}
use Rattle.session_slots.specs.declared.slot.CachedCall.{CachedCall}
use Rattle.session_slots.specs.Sequencing.{Asked}

-- the bytes that a retry of a call has to repeat
abbrev pub bytes_of : CallBytes → List ℕ
bytes_of c = c.prefix.now ++ c.back.now

abbrev pub call_of : Sequence → Call
call_of s = record { number = s.number; caller = s.caller.now; arguments = bytes_of s.arguments }

abbrev pub asked_of : Sequence → Asked
asked_of s = record { slot = s.slot; highest = s.highest; count = s.count; record_len = s.record_len; call = call_of s }

abbrev pub exchanging_of : Exchange → Exchanging
exchanging_of e = record {
  owner = e.owner.now;
  verifier = e.verifier;
  uid = e.uid;
  flags = e.flags;
  has_opens = e.has_opens;
}

abbrev pub kept_of : CachedCall → Cached
kept_of k = record {
  call = record { number = k.number; caller = k.caller.now; arguments = k.arguments.now };
  results = k.results.now;
}

abbrev pub client_of : Record → Client
client_of r = record {
  number = r.number;
  owner = r.owner.now;
  verifier = r.verifier;
  uid = r.uid;
  confirmed = r.confirmed;
  created = r.created;
  reclaimed = r.reclaimed;
}
