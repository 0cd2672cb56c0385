-- The acts of serving, in one ordered list. An act is a call of the streams or of the store's disk, or something that
-- is done with the hub.
use Rattle.std.specs.Prelude.{◌≡◌, ◌≤◌, ◌⊎◌, ◌+◌, ◌-◌, ◌==◌, ℕ, Bool, true, false, List, [], ◌∷◌, ◌++◌, length}
use Rattle.std.specs.Prelude.{Option, Some, None, take, drop, if◌then◌else◌}
use Rattle.who_book.specs.Content.{Content}
use Rattle.store_journal.specs.Disk.{Act as DiskAct}
use Rattle.compound_run.specs.State.{State as ServerState}
use Rattle.nfs_hub.specs.declared.fault.HubFault.{HubFault}
use Rattle.nfs_streams.specs.declared.streams.Moved.{Moved}
use Rattle.nfs_streams.specs.declared.streams.Moved.TheVariants as moved
use Rattle.nfs_streams.specs.declared.streams.Arrival.{Arrival}
use Rattle.nfs_streams.specs.declared.streams.Arrival.TheVariants as arrived
use Rattle.nfs_streams.specs.declared.streams.StreamEnd.{StreamEnd}

-- one call of the streams or of the disk, with its result; or what is done with the hub
pub data Act : Type 0 where
  -- serving has waited, and whether the wait succeeded
  Waited : Bool → Act
  -- another stream has arrived, and can be admitted
  Arrived : Act
  -- the stream that has arrived gets this place, as the connection of this number
  Admitted : ℕ → ℕ → Act
  -- the stream of the place is closed, since its connection has ended in this way
  Closed : ℕ → StreamEnd → Act
  -- these bytes were read from the stream of the place
  Received : ℕ → List ℕ → Act
  -- no more bytes of the stream of the place will come
  Ended : ℕ → Act
  -- a read of the stream of the place failed
  Unread : ℕ → Act
  -- another book of names was asked for, and none has arrived
  Looked : Act
  -- another book of names was asked for, and this one has arrived
  Brought : Content → Act
  -- the book that has arrived is loaded
  Loaded : Content → Act
  -- a piece of what was read from the stream of the place begins
  Begun : ℕ → Act
  -- these bytes of the piece are given to the hub, which takes them or has this fault
  Given : ℕ → List ℕ → Option HubFault → Act
  -- the lines on the trail of a server in this state are kept
  Kept : ServerState → Act
  -- keeping the trail failed
  Lost : Act
  -- this act on a file of the store
  OnDisk : DiskAct → Act
  -- With a store, the persistent state of a server in this state is stored: the part that outlives a restart. The log
  -- begins anew.
  Stored : ServerState → Act
  -- storing failed
  Unstored : Act
  -- a client that was silent for longer than a lease is expired
  Expired : ℕ → Act
  -- these bytes were written to the stream of the place
  Sent : ℕ → List ℕ → Act
  -- a write to the stream of the place failed
  Unwritten : ℕ → Act

-- the acts that are calls of the streams or of the disk
abbrev pub of_streams : List Act → List Act
of_streams [] = []
of_streams (Loaded book ∷ acts) = of_streams acts
of_streams (Begun place ∷ acts) = of_streams acts
of_streams (Given place bytes fault ∷ acts) = of_streams acts
of_streams (Stored state ∷ acts) = of_streams acts
of_streams (Unstored ∷ acts) = of_streams acts
of_streams (Expired client ∷ acts) = of_streams acts
of_streams (act ∷ acts) = act ∷ of_streams acts

-- these acts were added to the known acts so far; lists of acts have the newest first
abbrev pub Adds : Option (List Act) → Option (List Act) → List Act → Type 0
Adds None new acts = Unit {0}
Adds (Some old) None acts = ⊥
Adds (Some old) (Some new) acts = new ≡ acts ++ old

abbrev pub arrived_acts : Arrival → List Act
arrived_acts arrived.Nobody = []
arrived_acts arrived.Here = Arrived ∷ []
arrived_acts arrived.Waiting = []

abbrev pub kept : Bool → ServerState → List Act
kept true state = Kept state ∷ []
kept false state = Lost ∷ []

abbrev pub looked : Option Content → List Act
looked (Some book) = Brought book ∷ []
looked None = Looked ∷ []

-- the act of a read into a buffer, by the bytes that it moved
abbrev pub read_acts : ℕ → Moved → List ℕ → List Act
read_acts place (moved.Bytes n) bytes = Received place (take n bytes) ∷ []
read_acts place moved.NotYet bytes = []
read_acts place moved.Over bytes = Ended place ∷ []
read_acts place moved.Failed bytes = Unread place ∷ []

-- the act of a write of these bytes
abbrev pub write_acts : ℕ → Moved → List ℕ → List Act
write_acts place (moved.Bytes n) bytes = Sent place (take n bytes) ∷ []
write_acts place moved.NotYet bytes = []
write_acts place moved.Over bytes = Unwritten place ∷ []
write_acts place moved.Failed bytes = Unwritten place ∷ []

-- at most `most` bytes were moved
abbrev pub IsWithin : Moved → ℕ → Type 0
IsWithin (moved.Bytes n) most = n ≤ most
IsWithin moved.NotYet most = Unit {0}
IsWithin moved.Over most = Unit {0}
IsWithin moved.Failed most = Unit {0}

-- ---- values of a list of acts, the newest first

-- the number of the connection at a place, if any
abbrev pub conn_at : List Act → ℕ → Option ℕ
conn_at [] place = None
conn_at (Admitted at id ∷ acts) place = if place == at then Some id else conn_at acts place
conn_at (Closed at end ∷ acts) place = if place == at then None else conn_at acts place
conn_at (act ∷ acts) place = conn_at acts place

-- the number of connections that are at places
abbrev pub open_in : List Act → ℕ
open_in [] = 0
open_in (Admitted at id ∷ acts) = open_in acts + 1
open_in (Closed at end ∷ acts) = open_in acts - 1
open_in (act ∷ acts) = open_in acts

-- the number of waits
abbrev pub waits : List Act → ℕ
waits [] = 0
waits (Waited well ∷ acts) = waits acts + 1
waits (act ∷ acts) = waits acts

-- the number of admitted streams
abbrev pub admitted : List Act → ℕ
admitted [] = 0
admitted (Admitted at id ∷ acts) = admitted acts + 1
admitted (act ∷ acts) = admitted acts

-- the bytes that were read from the stream of a place and aren't given yet, in order
abbrev pub ahead : List Act → ℕ → List ℕ
ahead [] place = []
ahead (Admitted at id ∷ acts) place = if place == at then [] else ahead acts place
ahead (Received at bytes ∷ acts) place = if place == at then ahead acts place ++ bytes else ahead acts place
ahead (Given at bytes fault ∷ acts) place =
    if place == at then drop (length bytes) (ahead acts place) else ahead acts place
ahead (act ∷ acts) place = ahead acts place

-- the most bytes of a piece
abbrev pub MAX_PIECE : ℕ
MAX_PIECE = 4096

-- how many bytes of the piece that was begun at a place may still be given
abbrev pub left_of_piece : List Act → ℕ → ℕ
left_of_piece [] place = 0
left_of_piece (Begun at ∷ acts) place = if place == at then MAX_PIECE else left_of_piece acts place
left_of_piece (Given at bytes fault ∷ acts) place =
    if place == at then left_of_piece acts place - length bytes else left_of_piece acts place
left_of_piece (act ∷ acts) place = left_of_piece acts place

-- the turns of the connection at a place: reads of its stream that returned bytes
abbrev pub turns_at : List Act → ℕ → ℕ
turns_at [] place = 0
turns_at (Admitted at id ∷ acts) place = if place == at then 0 else turns_at acts place
turns_at (Received at bytes ∷ acts) place = if place == at then turns_at acts place + 1 else turns_at acts place
turns_at (act ∷ acts) place = turns_at acts place

-- the fault of the hub at the bytes of a place that were last given
abbrev pub fault_at : List Act → ℕ → Option HubFault
fault_at [] place = None
fault_at (Admitted at id ∷ acts) place = if place == at then None else fault_at acts place
fault_at (Given at bytes fault ∷ acts) place = if place == at then fault else fault_at acts place
fault_at (act ∷ acts) place = fault_at acts place

-- the act is one of these
abbrev pub Has : Act → List Act → Type 0
Has act [] = ⊥
Has act (a ∷ acts) = (a ≡ act) ⊎ Has act acts

-- the act is the newest one
abbrev pub Just : Act → List Act → Type 0
Just act [] = ⊥
Just act (a ∷ acts) = a ≡ act

-- the book that has arrived and isn't loaded yet
abbrev pub book_waiting : List Act → Option Content
book_waiting [] = None
book_waiting (Brought book ∷ acts) = Some book
book_waiting (Loaded book ∷ acts) = None
book_waiting (act ∷ acts) = book_waiting acts

-- another book of names was asked for since bytes were last read
abbrev pub IsAsked : List Act → Type 0
IsAsked [] = ⊥
IsAsked (Looked ∷ acts) = Unit {0}
IsAsked (Brought book ∷ acts) = Unit {0}
IsAsked (Received at bytes ∷ acts) = ⊥
IsAsked (act ∷ acts) = IsAsked acts

-- and each book that had arrived by then is loaded
abbrev pub IsLooked : List Act → Type 0
IsLooked acts = IsAsked acts × (book_waiting acts ≡ None)

-- with a store, the server was last stored in this state
abbrev pub IsStored : List Act → ServerState → Type 0
IsStored [] s = ⊥
IsStored (Stored state ∷ acts) s = state ≡ s
IsStored (act ∷ acts) s = IsStored acts s

-- nothing has just ended or failed
abbrev pub IsSettled : List Act → Type 0
IsSettled [] = Unit {0}
IsSettled (Waited false ∷ acts) = ⊥
IsSettled (Ended at ∷ acts) = ⊥
IsSettled (Unread at ∷ acts) = ⊥
IsSettled (Unwritten at ∷ acts) = ⊥
IsSettled (Lost ∷ acts) = ⊥
IsSettled (Unstored ∷ acts) = ⊥
IsSettled (act ∷ acts) = Unit {0}
