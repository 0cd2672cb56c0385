-- Acts of serving as steps of the written machine. Each is allowed when it happens.
use Rattle.std.specs.Prelude.{◌≡◌, ◌≢◌, ◌⊎◌, ◌≤◌, ◌<◌, ℕ, true, false, List, [], ◌∷◌, ◌++◌, length, take, Option}
use Rattle.std.specs.Prelude.{Some, None, min}
use Rattle.nfs_types.specs.declared.moment.Moment.{Moment}
use Rattle.rpc_record.specs.Records.{IsRecord}
use Rattle.access_guard.specs.declared.line.Line.{Line}
use Rattle.compound_run.specs.State.{State as ServerState}
use Rattle.nfs_hub.specs.declared.fault.HubFault.{HubFault}
use Rattle.nfs_hub.specs.declared.fault.HubFault.TheVariants as fault
use Rattle.nfs_hub.specs.Machine.{Connected, State, Event, Connect, Piece, Take, Close, Reload, ClientExpired, BeginLog}
use Rattle.nfs_hub.specs.Machine.{Step}
use Rattle.nfs_hub.specs.Machine.{ReachedBreak, fresh}
use Rattle.nfs_streams.specs.declared.streams.StreamEnd.{StreamEnd}
use Rattle.nfs_streams.specs.declared.streams.StreamEnd.TheVariants as end
use Rattle.nfs_streams.specs.declared.serving.Limits.{Limits}
use Rattle.nfs_streams.specs.Acts.{Act, Arrived, Admitted, Closed, Received, Ended, Unread, Looked, Brought, Loaded}
use Rattle.nfs_streams.specs.Acts.{Begun}
use Rattle.nfs_streams.specs.Acts.{Given, Kept, Stored, Expired, Sent, Unwritten, Has, Just, IsLooked, IsSettled}
use Rattle.nfs_streams.specs.Acts.{IsStored, book_waiting, conn_at, open_in, ahead, left_of_piece, turns_at, fault_at}

-- the most bytes of one read
abbrev pub MAX_READ : ℕ
MAX_READ = 131072

-- the most bytes of one write
abbrev pub MAX_WRITTEN : ℕ
MAX_WRITTEN = 131072

-- the most bytes of waiting replies with which a piece may begin
abbrev pub MAX_WAITING : ℕ
MAX_WAITING = 4096

-- the most connections that are open at once, and of places, in any profile
abbrev pub MOST_PLACES : ℕ
MOST_PLACES = 256

-- the most connections that may be open at once
abbrev pub most_open : Limits → ℕ
most_open limits = min limits.places MOST_PLACES

-- the connection at a place is open, and has this property
abbrev pub On : List Act → ℕ → State → (Connected → Type 0) → Type 0
On acts place s is = (id : ℕ) × (c : Connected) × (conn_at acts place ≡ Some id) × (s.connection id ≡ Some c) × is c

-- a step on the connection at a place
abbrev pub StepAt : List Act → ℕ → (ℕ → Event) → State → State → Type 0
StepAt acts place event old new = (id : ℕ) × (conn_at acts place ≡ Some id) × Step (event id) old new

-- The bytes leave the server unchanged. Or the rest and these bytes are one complete record.
abbrev pub AnswersOne : List ℕ → List ℕ → State → State → Type 0
AnswersOne rest bytes old new = (new.served ≡ old.served) ⊎ ((content : List ℕ) × IsRecord content (rest ++ bytes))

-- The fault of the hub at bytes of the connection at a place. None: the connection isn't broken. `Broken`: the stream
-- or a record of it breaks in these bytes. Any other: an allocation failed, and the connection is broken.
abbrev pub FaultIs : Option HubFault → List Act → ℕ → List ℕ → Moment → State → State → Type 0
FaultIs None earlier place bytes now old new = On earlier place new (λ c. c.broken ≡ false)
FaultIs (Some fault.Broken) earlier place bytes now old new =
    On earlier place new
    (λ d. (d.broken ≡ true)
    × On earlier place old (λ c. ReachedBreak now old.served c.pending (c.rest ++ bytes) new.served d.pending))
FaultIs (Some other) earlier place bytes now old new = On earlier place new (λ c. c.broken ≡ true)

-- Bytes are given. They are a piece of the connection at the place, at some moment. They answer at most one record,
-- which their last byte completes.
abbrev pub Gives : List Act → ℕ → List ℕ → Option HubFault → State → State → Type 0
Gives earlier place bytes fault old new =
    (now : Moment) × StepAt earlier place (λ id. Piece id bytes now) old new
    × On earlier place old (λ c. AnswersOne c.rest bytes old new) × FaultIs fault earlier place bytes now old new

-- The step of the machine for an act after earlier acts. An admitted stream is the connection of the next number, which
-- is then open. Given bytes are a piece of the connection at their place. Written bytes are a prefix of its pending
-- bytes, and are taken from them. If a stream is closed, its connection is closed. A book is loaded by a step of the
-- machine, which changes nothing if no epoch is left for the book. When the persistent state is stored, the log begins
-- anew. A client whose lease is over is expired. All other acts change nothing.
abbrev pub Does : List Act → Act → State → State → Type 0
Does earlier (Admitted place id) old new = (id ≡ old.next) × Step Connect old new × (new.connection id ≡ Some fresh)
Does earlier (Closed place end) old new = StepAt earlier place Close old new
Does earlier (Given place bytes fault) old new = Gives earlier place bytes fault old new
Does earlier (Sent place bytes) old new =
    On earlier place old (λ c. bytes ≡ take (length bytes) c.pending)
    × StepAt earlier place (λ id. Take id (length bytes)) old new
Does earlier (Loaded book) old new = Step (Reload book) old new
Does earlier (Expired client) old new = Step (ClientExpired client) old new
Does earlier (Stored state) old new = Step BeginLog old new
Does earlier act old new = new ≡ old

-- a connection isn't broken
abbrev pub IsWhole : Connected → Type 0
IsWhole c = c.broken ≡ false

-- a connection isn't broken, and no bytes are pending on it
abbrev pub CanReceive : Connected → Type 0
CanReceive c = (c.broken ≡ false) × (c.pending ≡ [])

-- a connection isn't broken, and at most `MAX_WAITING` bytes are pending on it
abbrev pub CanBegin : Connected → Type 0
CanBegin c = (c.broken ≡ false) × (length c.pending ≤ MAX_WAITING)

-- a connection is broken, and no bytes are pending on it
abbrev pub IsSpent : Connected → Type 0
IsSpent c = (c.broken ≡ true) × (c.pending ≡ [])

-- bytes wait to be written on a connection
abbrev pub IsWaiting : Connected → Type 0
IsWaiting c = c.pending ≢ []

-- a connection is after a complete record, or inside one
abbrev pub IsBetween : Connected → Type 0
IsBetween c = c.rest ≡ []

abbrev pub IsInside : Connected → Type 0
IsInside c = c.rest ≢ []

-- Whether the connection at a place may be closed with this end. `Ended`, `Inside`: its stream has just ended, after a
-- complete record or inside one. `Broken`, `Memory`: the bytes given last broke it, or an allocation for them failed,
-- and no bytes are pending on it. `Read`, `Write`: a read or a write has just failed. `Turns`: its turns are used up,
-- and everything that was read from it is given and answered. `Quiet`: the limit of open connections is reached,
-- another stream has just arrived, and room is to be made for it. `Stopped`: never within a run.
abbrev pub MayClose : Limits → List Act → ℕ → StreamEnd → State → Type 0
MayClose limits earlier place end.Ended s = Just (Ended place) earlier × On earlier place s IsBetween
MayClose limits earlier place end.Inside s = Just (Ended place) earlier × On earlier place s IsInside
MayClose limits earlier place end.Broken s =
    IsSettled earlier × (fault_at earlier place ≡ Some fault.Broken) × On earlier place s IsSpent
MayClose limits earlier place end.Memory s =
    IsSettled earlier × ((why : HubFault) × (fault_at earlier place ≡ Some why) × (why ≢ fault.Broken))
    × On earlier place s IsSpent
MayClose limits earlier place end.Read s = Just (Unread place) earlier
MayClose limits earlier place end.Write s = Just (Unwritten place) earlier
MayClose limits earlier place end.Turns s =
    IsSettled earlier × (limits.reads ≤ turns_at earlier place) × (ahead earlier place ≡ [])
    × On earlier place s CanReceive
MayClose limits earlier place end.Quiet s =
    Just Arrived earlier × (limits.makes_room ≡ true) × (most_open limits ≤ open_in earlier)
MayClose limits earlier place end.Stopped s = ⊥

-- a stream may be read: its connection isn't broken, no bytes are pending on it, and everything that was read before is
-- given
abbrev pub MayReceive : List Act → ℕ → State → Type 0
MayReceive earlier place s = IsSettled earlier × (ahead earlier place ≡ []) × On earlier place s CanReceive

-- these lines were kept, as those of a server in some state
pub record HasKept (lines : List Line) (total : ℕ) (earlier : List Act) : Type 0 where
  pub state : ServerState
  pub kept : Has (Kept state) earlier
  pub lines_are : state.trail ≡ lines
  pub total_is : state.total ≡ total

-- the trail of the server in its present state has been kept: no line of an earlier record waits to be kept
abbrev pub IsKept : List Act → State → Type 0
IsKept earlier s = HasKept s.served.state.trail s.served.state.total earlier

-- The acts that are allowed after earlier acts.
-- - After an end or a failure of a stream only its closing is allowed. After a failed wait, a trail that couldn't be
--   kept, or a store that failed, nothing is.
-- - A stream is admitted only just after it has arrived. Its place is free and below 256, and fewer connections are
--   open than the limit.
-- - At most 131,072 bytes are read at once. By then everything that was read from that stream before is given, no bytes
--   are pending on its connection, and its turns aren't used up.
-- - A piece begins only while at most 4,096 bytes are pending on its connection.
-- - Bytes are given only to a connection that isn't broken. They are what was read from it, in that order, and no more
--   than the piece has left. Another book was asked for since the last read, and none waits. The trail of the server in
--   its present state has been kept.
-- - At most 131,072 bytes are written at once. A write is tried only while bytes are pending on the connection. By then
--   the trail of the server in its present state has been kept, after a book too. The persistent state of the server in
--   its present state is stored.
abbrev pub Allowed : Limits → List Act → Act → State → Type 0
Allowed limits earlier (Admitted place id) s =
    Just Arrived earlier × (conn_at earlier place ≡ None) × (open_in earlier < most_open limits)
    × (place < MOST_PLACES)
Allowed limits earlier (Closed place end) s = MayClose limits earlier place end s
Allowed limits earlier (Received place bytes) s =
    MayReceive earlier place s × (length bytes ≤ MAX_READ) × (turns_at earlier place < limits.reads)
Allowed limits earlier (Ended place) s = MayReceive earlier place s
Allowed limits earlier (Unread place) s = MayReceive earlier place s
Allowed limits earlier Looked s = IsSettled earlier × (book_waiting earlier ≡ None)
Allowed limits earlier (Brought book) s = IsSettled earlier × (book_waiting earlier ≡ None)
Allowed limits earlier (Loaded book) s = IsSettled earlier × (book_waiting earlier ≡ Some book)
Allowed limits earlier (Begun place) s = IsSettled earlier × On earlier place s CanBegin
Allowed limits earlier (Given place bytes fault) s =
    IsSettled earlier × IsLooked earlier × IsKept earlier s × On earlier place s IsWhole
    × (length bytes ≤ left_of_piece earlier place) × (bytes ≡ take (length bytes) (ahead earlier place))
Allowed limits earlier (Sent place bytes) s =
    IsSettled earlier × (length bytes ≤ MAX_WRITTEN) × IsKept earlier s × On earlier place s IsWaiting
    × IsStored earlier s.served.state
Allowed limits earlier (Unwritten place) s =
    IsSettled earlier × IsKept earlier s × On earlier place s IsWaiting × IsStored earlier s.served.state
Allowed limits earlier (Expired client) s = IsSettled earlier × (limits.leases ≡ true)
Allowed limits earlier (Kept state) s = IsSettled earlier × (state ≡ s.served.state)
Allowed limits earlier (Stored state) s = IsSettled earlier × (state ≡ s.served.state)
Allowed limits earlier act s = IsSettled earlier

-- The acts, the newest first, run the machine from one state to another. Each is allowed when it happens.
abbrev pub Runs : Limits → List Act → State → State → Type 0
Runs limits [] old new = new ≡ old
Runs limits (act ∷ earlier) old new =
    (mid : State) × Runs limits earlier old mid × Allowed limits earlier act mid × Does earlier act mid new

-- after earlier acts serving has ended: streams are closed, and nothing else is done
abbrev pub Ends : List Act → List Act → State → State → Type 0
Ends earlier [] old new = new ≡ old
Ends earlier (act ∷ acts) old new =
    (place : ℕ) × (mid : State) × (act ≡ Closed place end.Stopped) × Ends earlier acts old mid
    × StepAt (acts ++ earlier) place Close mid new
