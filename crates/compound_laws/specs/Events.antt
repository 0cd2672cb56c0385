-- Calls with sessions, and other events between them (RFC 8881, sections 2.10.6.1, 5.9 and 8.3): a book of names is
-- loaded, or a client expires.
use Rattle.std.specs.Prelude.{◌≡◌, ℕ, None}
use Rattle.std.specs.Option.{option_map_or}
use Rattle.who_book.specs.Content.{Content}
use Rattle.access_guard.specs.Epochs.{next_epoch}
use Rattle.session_slots.specs.Retrying.{Fate, Runs}
use Rattle.compound_run.specs.State.{State, Call, with_book, without_client}
use Rattle.compound_run.specs.InSession.{Reply, RunsCall, fate}

-- a call arrives, a book is loaded, or a client with this ID expires
pub data Event : Type 0 where
  CallArrives : Call → Event
  Loads : Content → Event
  LetsGo : ℕ → Event

-- The book is loaded if an epoch is left for it; else nothing changes.
abbrev pub loaded : Content → State → State
loaded book s = option_map_or (λ epoch. with_book book s) (next_epoch s.settings.epoch) s

-- an event that isn't a call is never a retry
abbrev pub event_fate : State → Event → Fate Reply
event_fate s (CallArrives call) = fate s call
event_fate s (Loads book) = Runs
event_fate s (LetsGo client) = Runs

-- an event that isn't a call has no reply
abbrev pub RunsEvent : Event → State → Reply → State → Type 0
RunsEvent (CallArrives call) old reply new = RunsCall call old reply new
RunsEvent (Loads book) old reply new = (reply ≡ None) × (new ≡ loaded book old)
RunsEvent (LetsGo client) old reply new = (reply ≡ None) × (new ≡ without_client client old)
