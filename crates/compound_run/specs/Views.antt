-- The values of the code, as the definitions see them.
use Rattle.std.specs.Prelude.{◌≡◌, ◌≢◌, ◌≤◌, ℕ, ◌+◌, Bool, true, false, List, length, map, Result, Ok, Err, OnOk, OnErr}
use Rattle.xdr_wire.specs.Buffer.{Buffer, Appends}
use Rattle.xdr_wire.specs.Xdr.{Value}
use Rattle.rpc_record.specs.Identity.{Identity}
use Rattle.who_book.specs.Content.{Content}
use Rattle.who_book.specs.Members.{member}
use Rattle.nfs_types.specs.declared.attrs.Attrs.{Attrs}
use Rattle.nfs_types.specs.declared.moment.Moment.{Moment}
use Rattle.nfs_types.specs.declared.status.Status.{Status}
use Rattle.nfs_types.specs.declared.status.Status.TheVariants as statuses
use Rattle.nfs_types.specs.Sent.{Wanted, made}
use Rattle.nfs_ops.specs.declared.Op.{Op}
use Rattle.nfs_ops.specs.Operations.{Operation}
use Rattle.nfs_ops.specs.OpViews.{op_view}
use Rattle.nfs_ops.specs.Results.{Outcome}
use Rattle.node_tree.specs.World.{World}
use Rattle.compound_run.specs.declared.compound.CompoundArgs.{CompoundArgs}
use Rattle.compound_run.specs.declared.context.Context as code
use Rattle.compound_run.specs.declared.create.Draft as drafts
use Rattle.compound_run.specs.declared.realm.Realm as realms
use Rattle.compound_run.specs.declared.filehandles.FileHandles.{FileHandles}
use Rattle.compound_run.specs.declared.client_state.Lent.{Lent}
use Rattle.compound_run.specs.declared.opens.Open.{Open}
use Rattle.compound_run.specs.declared.server.Args.{Args}
use Rattle.compound_run.specs.declared.step.Step as steps
use Rattle.access_guard.specs.declared.line.Line.{Line}
use Rattle.access_guard.specs.Log.{Log, held, settled}
use Rattle.compound_run.specs.ClientState.{ClientState}
use Rattle.compound_run.specs.Limits.{MIN_ROOM, REFUSAL_ROOM}
use Rattle.compound_run.specs.Realm.{Realm, Opened}
use Rattle.compound_run.specs.Context.{Context}
use Rattle.compound_run.specs.Settings.{Settings}
use Rattle.compound_run.specs.Sight.{whole}
use Rattle.compound_run.specs.Meaning.{Meaning}
use Rattle.compound_run.specs.Operations.{may_delay, meaning}
use Rattle.compound_run.specs.Runs.{Point, Answered, spelled, waits}
use Rattle.compound_run.specs.Operations.Create.{Draft}
use Rattle.compound_run.specs.Compound.{args_form}
use Rattle.compound_run.specs.State.{State, Call}
use Rattle.access_guard.specs.Guarded.{Guarded}

-- an open file
abbrev pub open_view : {A : Type 0} → Open A → Opened
open_view o =
    record {
      number = o.number;
      client = o.client;
      owner = o.owner.items;
      object = o.object;
      access = o.access;
      seqid = o.seqid;
    }

abbrev pub opens_view : {A : Type 0} → List (Open A) → List Opened
opens_view opens = map open_view opens

-- the client state, borrowed
abbrev pub lent_view : {A : Type 0} → Lent A → ClientState
lent_view l = record { registry = l.clients.now; opens = opens_view l.opens.now; next_open = l.next_open }

-- the realm
abbrev pub realm_of : {A : Type 0} → realms.Realm A → Realm
realm_of e =
    record {
      world = e.tree.world;
      opens = opens_view e.opens.items;
      next_open = e.next_open;
      registry = e.clients;
      lasting = e.lasting;
    }

-- the settings of a server
abbrev pub settings_in : Guarded → Settings
settings_in t = record { capacity = t.capacity; book = t.book; epoch = t.epoch }

abbrev pub settings_of : {A : Type 0} → realms.Realm A → Settings
settings_of e = settings_in e.tree

abbrev pub point_at : {A : Type 0} → realms.Realm A → FileHandles → Point
point_at e h = record { realm = realm_of e; log = e.tree.log; settings = settings_of e; handles = h }

-- the state of a server
abbrev pub state_of : {A : Type 0} → realms.Realm A → State
state_of e = record { realm = realm_of e; trail = e.tree.log.trail; total = e.tree.log.total; settings = settings_of e }

-- a call with these arguments
abbrev pub called : Args → Identity → Moment → Call
called args caller now = record { arguments = args.bytes.now; record_len = args.record_len; caller = caller; now = now }

-- the lines of decisions are held
abbrev pub holding : {A : Type 0} → List Line → realms.Realm A → realms.Realm A
holding lines e = record e { tree = record e.tree { log = held lines e.tree.log } }

-- the realm with another world
abbrev pub with_world : {A : Type 0} → World → realms.Realm A → realms.Realm A
with_world w e = record e { tree = record e.tree { world = w } }

-- the context of an operation under this book: access control lists (ACLs) are evaluated for the caller by the book
abbrev pub context_of : code.Context → Content → Context
context_of c book =
    record {
      caller = member book c.caller.now;
      now = c.now;
      book = book;
      times = c.times;
      calling = c.calling;
      position = c.position;
      count = c.count;
      room = c.room;
    }

abbrev pub context_at : {A : Type 0} → realms.Realm A → code.Context → Context
context_at e c = context_of c e.tree.book

-- the outcome for an answer: the operation's result, or the status of its refusal
abbrev pub outcome_as : Meaning → Realm → Result FileHandles Status → Result Outcome Status
outcome_as m r (Ok handles) = Ok (m.answer (whole r))
outcome_as m r (Err status) = Err status

-- the filehandles after an answer: those that it returns, or those before if it is a refusal
abbrev pub handles_after : FileHandles → Result FileHandles Status → FileHandles
handles_after before (Ok handles) = handles
handles_after before (Err status) = before

-- the state that a run has reached, and what is written so far
pub record Stage (X : Type 0) : Type 0 where
  pub at : X
  pub out : Buffer

abbrev pub stage : {X : Type 0} → X → Buffer → Stage X
stage x out = record { at = x; out = out }

-- how an operation is answered: whether it may answer DELAY, its meaning, and what becomes of its lines
pub record Sense : Type 0 where
  pub may : Bool
  pub meaning : Meaning
  pub ends : Log → Log

abbrev pub sense : Bool → Meaning → (Log → Log) → Sense
sense may m ends = record { may = may; meaning = m; ends = ends }

abbrev pub by_meaning : Context → FileHandles → Operation → Sense
by_meaning c handles op = sense (may_delay c op) (meaning c handles op) waits

abbrev pub by_run : Context → FileHandles → Operation → Sense
by_run c handles op = sense (may_delay c op) (meaning c handles op) (settled true)

-- An operation is answered. If it is OK its result is written, within its room; else nothing is.
pub record OperationGives {A : Type 0} (s : Sense) (room : ℕ) (handles : FileHandles) (old : Stage (realms.Realm A))
    (result : Result FileHandles Status) (new : Stage (realms.Realm A)) : Type 0 where
  pub answered : Answered s.may s.meaning s.ends (point_at old.at handles) (outcome_as s.meaning (realm_of old.at) result)
      (point_at new.at (handles_after handles result))
  pub written : OnOk result (Appends old.out new.out (spelled (s.meaning.answer (whole (realm_of old.at)))))
  pub within : OnOk result (length new.out.bytes ≤ length old.out.bytes + room)
  pub unwritten : OnErr result (new.out ≡ old.out)

-- the answer of an operation at its place, by its sense there
abbrev pub GivesAt : {A : Type 0} → steps.Step → (Context → FileHandles → Sense) → Stage (realms.Realm A)
    → Result FileHandles Status → Stage (realms.Realm A) → Type 0
GivesAt step s old result new =
    OperationGives (s (context_at old.at step.context) step.handles) step.context.room step.handles old result new

-- the answer of an operation that allocates no memory, before its end
abbrev pub Gives : {A : Type 0} → steps.Step → (Context → FileHandles → Meaning) → Stage (realms.Realm A)
    → Result FileHandles Status → Stage (realms.Realm A) → Type 0
Gives step m old result new = GivesAt step (λ c handles. sense false (m c handles) waits) old result new

-- an operation that allocates memory may answer DELAY
abbrev pub GivesOrDelays : {A : Type 0} → steps.Step → (Context → FileHandles → Meaning) → Stage (realms.Realm A)
    → Result FileHandles Status → Stage (realms.Realm A) → Type 0
GivesOrDelays step m old result new = GivesAt step (λ c handles. sense true (m c handles) waits) old result new

-- the answer of any operation, by its sense
abbrev pub GivesBy : {A : Type 0} → (Context → FileHandles → Operation → Sense) → steps.Step → Op
    → Stage (realms.Realm A) → Result FileHandles Status → Stage (realms.Realm A) → Type 0
GivesBy s step op old result new = GivesAt step (λ c handles. s c handles (op_view op)) old result new

-- there is room for the result of an operation that runs, and for a refusal
abbrev pub HasRoom : code.Context → Buffer → Type 0
HasRoom c out = (MIN_ROOM ≤ c.room) × (c.room + REFUSAL_ROOM ≤ out.room)

-- the object that CREATE makes
abbrev pub draft_view : drafts.Draft → Draft
draft_view d = record { kind = d.kind; text = d.text.now }

-- the values that attributes set
abbrev pub wanted_view : {A : Type 0} → Attrs A → Wanted
wanted_view a = made a.size a.list a.mode a.owner a.group a.access a.modify a.dacl a.sacl

-- Attributes are decoded, or refused with their status. An answer of DELAY states nothing of them.
abbrev pub IsWanted : {A : Type 0} → Result Wanted Status → Result (Attrs A) Status → Type 0
IsWanted wanted (Ok attrs) = wanted ≡ Ok (wanted_view attrs)
IsWanted wanted (Err status) = status ≢ statuses.Delay → wanted ≡ Err status

-- a COMPOUND's arguments up to its operations
abbrev pub args_of : CompoundArgs → Value args_form
args_of a = (a.tag.now, (a.minor_version, a.count))

abbrev pub arguments_of : CompoundArgs → Value args_form × List ℕ
arguments_of a = (args_of a, a.operations.now)
