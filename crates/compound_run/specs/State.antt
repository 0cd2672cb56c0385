-- The state that a server keeps from one COMPOUND to the next, and how a COMPOUND changes it.
use Rattle.std.specs.Prelude.{◌≡◌, ◌≤◌, ℕ, true, List, [], length, Option, Some, None}
use Rattle.xdr_wire.specs.Buffer.{Buffer, Appends}
use Rattle.xdr_wire.specs.Reading.{read_at}
use Rattle.xdr_wire.specs.Xdr.{Value}
use Rattle.rpc_record.specs.Identity.{Identity}
use Rattle.who_book.specs.Content.{Content}
use Rattle.who_book.specs.Members.{member}
use Rattle.nfs_types.specs.declared.moment.Moment.{Moment}
use Rattle.nfs_types.specs.declared.status.Status.{Status}
use Rattle.node_tree.specs.World.{World}
use Rattle.session_slots.specs.Covering.{all_lagging}
use Rattle.session_slots.specs.Expiring.{expire}
use Rattle.session_slots.specs.declared.restoring.NextNumbers.{NextNumbers}
use Rattle.access_guard.specs.declared.line.Line.{Line}
use Rattle.compound_run.specs.declared.server.RunEnd.{RunEnd}
use Rattle.compound_run.specs.declared.server.RunEnd.TheVariants.{Replied, Garbage}
use Rattle.compound_run.specs.Limits.{MAX_OPERATIONS, MAX_REPLY, MAX_RESULTS}
use Rattle.compound_run.specs.ClientState.{ClientState}
use Rattle.compound_run.specs.Realm.{Realm, unopened}
use Rattle.compound_run.specs.Context.{Context, no_handles}
use Rattle.compound_run.specs.Sessions.{opens_without}
use Rattle.compound_run.specs.Settings.{Settings, first_settings, reloaded_settings}
use Rattle.compound_run.specs.Runs.{Point, Given, Runs}
use Rattle.compound_run.specs.Compound.{args_form, args_in, head, first_room, together, opening_fault}

pub record State : Type 0 where
  -- the world, the open files, and the clients
  pub realm : Realm
  -- the last lines, in order, and the count of all lines
  pub trail : List Line
  pub total : ℕ
  pub settings : Settings

-- a server that has run nothing yet
abbrev pub fresh : World → Content → ℕ → State
fresh w book capacity = record { realm = unopened w; trail = []; total = 0; settings = first_settings capacity book }

-- A server that continues after a restart: with this world and this client state. Its sessions are persistent, over the
-- next restart too (RFC 8881, section 2.10.6.5).
abbrev pub restored : World → ClientState → Content → ℕ → State
restored w k book capacity = record {
  realm = record { world = w; opens = k.opens; next_open = k.next_open; registry = k.registry; lasting = true };
  trail = [];
  total = 0;
  settings = first_settings capacity book;
}

-- the client state of a server
abbrev pub client_state_of : State → ClientState
client_state_of s = record { registry = s.realm.registry; opens = s.realm.opens; next_open = s.realm.next_open }

-- no line is written yet, as after a start
abbrev pub without_lines : State → State
without_lines s = record s { trail = []; total = 0 }

-- all slots lag, as after a start (RFC 8881, section 2.10.6.5)
abbrev pub with_lagging_slots : State → State
with_lagging_slots s = record s { realm = record s.realm { registry = all_lagging s.realm.registry } }

-- the numbers of the next client, session and open file
abbrev pub next_numbers : State → NextNumbers
next_numbers s =
    record {
      client = s.realm.registry.next_client;
      session = s.realm.registry.next_session;
      open_file = s.realm.next_open;
    }

-- the beginning of a COMPOUND: no line is held, and no filehandle is set
abbrev pub start : State → Point
start s =
    record {
      realm = s.realm;
      log = record { held = []; trail = s.trail; total = s.total };
      settings = s.settings;
      handles = no_handles;
    }

-- the state at its end
abbrev pub left : State → Point → State
left s p = record s { realm = p.realm; trail = p.log.trail; total = p.log.total; settings = p.settings }

-- Another book is loaded. The world, the open files, the clients with their sessions, and the trail stay.
abbrev pub with_book : Content → State → State
with_book book s = record s { settings = reloaded_settings book s.settings }

-- A client expires: its record is removed with its sessions, and its open files are closed (RFC 8881, section 8.3).
abbrev pub without_client : ℕ → State → State
without_client client s =
    record s {
      realm = record s.realm {
        registry = expire client s.realm.registry;
        opens = opens_without (Some client) s.realm.opens;
      };
    }

-- ---- a call

pub record Call : Type 0 where
  pub arguments : List ℕ
  -- the byte count of its record
  pub record_len : ℕ
  -- the caller, as sent
  pub caller : Identity
  pub now : Moment

-- the context of its first operation, without a session
abbrev pub bare_context : State → Call → List ℕ → ℕ → Context
bare_context s call tag count = record {
  caller = member s.settings.book call.caller;
  now = call.now;
  book = s.settings.book;
  times = s.realm.world.limits.times;
  calling = None;
  position = 0;
  count = count;
  room = first_room MAX_REPLY tag;
}

-- the fate of a call, known before any operation runs
pub data Fate : Type 0 where
  -- the call is refused with these results, or with none if its arguments are garbage
  Refused : Option (List ℕ) → Fate
  -- the call is a retry, and gets the cached reply
  Retried : List ℕ → Fate
  -- the call's operations run, under its tag, from this context of the first
  Run : List ℕ → Context → List ℕ → Fate

abbrev pub fate_unless : Option Status → State → Call → List ℕ → ℕ → List ℕ → Fate
fate_unless (Some status) s call tag count operations = Refused (Some (head status tag 0))
fate_unless None s call tag count operations = Run tag (bare_context s call tag count) operations

abbrev pub fate_of : State → Call → Option (Value args_form × List ℕ) → Fate
fate_of s call None = Refused None
fate_of s call (Some ((tag, (minor, count)), operations)) =
    fate_unless (opening_fault MAX_OPERATIONS minor count) s call tag count operations

-- without a session no call is a retry
unfoldable pub fate : State → Call → Fate
fate s call = fate_of s call (args_in (read_at args_form call.arguments))

-- a call that runs: its operations in turn, with these results
abbrev pub CallRuns : List ℕ → Context → List ℕ → State → Option (List ℕ) → State → Type 0
CallRuns tag c operations old None new = ⊥
CallRuns tag c operations old (Some bytes) new =
    (end : Point) × (results : List Given) × Runs c c.count operations (start old) results end
    × (bytes ≡ together tag results) × (new ≡ left old end)

-- A call of this fate may have these results, or none if it is garbage, and end in this state.
abbrev pub AnswersBy : Fate → State → Option (List ℕ) → State → Type 0
AnswersBy (Refused reply) old results new = (results ≡ reply) × (new ≡ old)
AnswersBy (Retried reply) old results new = (results ≡ Some reply) × (new ≡ old)
AnswersBy (Run tag c operations) old results new = CallRuns tag c operations old results new

abbrev pub Answers : State → Call → Option (List ℕ) → State → Type 0
Answers old call results new = AnswersBy (fate old call) old results new

-- Results are appended to the buffer and are within the limit of a reply, or no results exist.
abbrev pub RunsBare : (Option (List ℕ) → State → Type 0) → RunEnd → Buffer → Buffer → State → Type 0
RunsBare answers Replied before after new =
    (results : List ℕ) × answers (Some results) new × Appends before after results × (length results ≤ MAX_RESULTS)
RunsBare answers Garbage before after new = answers None new × (after ≡ before)
