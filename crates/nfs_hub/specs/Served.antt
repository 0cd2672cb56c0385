-- The bytes that serving one connection reads and writes.
use Rattle.std.specs.Prelude.{◌≡◌, ◌≢◌, ◌≤◌, ◌<◌, ◌^◌, ◌⊎◌, ℕ, true, false, List, [], ◌∷◌, ◌++◌, length, Option, Some}
use Rattle.std.specs.Prelude.{None, IfSome}
use Rattle.std.specs.List.{flat_map}
use Rattle.std.specs.Io.KnownBytes.{Appends, Consumes, IsAtEnd}
use Rattle.nfs_hub.specs.declared.hub.Hub.{Hub}
use Rattle.nfs_hub.specs.declared.serving.ServeEnd.{ServeEnd}
use Rattle.nfs_hub.specs.declared.serving.ServeEnd.TheVariants.{Ended, Inside, Broken, Memory, TooMany, Read, Write}
use Rattle.nfs_hub.specs.declared.serving.ServeEnd.TheVariants.{Turns as TurnsUsedUp}
use Rattle.nfs_hub.specs.Answer.{Served}
use Rattle.nfs_hub.specs.Connection.{Read_at}
use Rattle.nfs_hub.specs.Machine.{Connected, State, Event, Connect, Piece, Take, Close, ReachedBreak, Step, IsHistory}
use Rattle.nfs_hub.specs.Hub.{IsHub, IsHistoryOf, IsUnchanged, most_connections, open_count, next_number}

-- the bytes that wait to be taken from a connection; none if it isn't open
abbrev pub IsPending : Option Connected → List ℕ → Type 0
IsPending None out = out ≡ []
IsPending (Some c) out = out ≡ c.pending

-- the most bytes of a piece that is read
abbrev pub MAX_PIECE : ℕ
MAX_PIECE = 4096

-- One turn: a piece comes, and then the pending bytes are taken.
pub record Turn (id : ℕ) (piece : Read_at) (old : State) (out : List ℕ) (new : State) : Type 0 where
  pub fed : State
  pub is_after : Step (Piece id piece.0 piece.1) old fed
  pub pending : IsPending (fed.connection id) out
  pub taken : Step (Take id (length out)) fed new

-- the taken bytes that the writer gets: all of them, or a prefix of them if it failed
abbrev pub Writes : ServeEnd → Option (List ℕ) → Option (List ℕ) → List ℕ → Type 0
Writes Write held held' out = (prefix : List ℕ) × (rest : List ℕ) × (out ≡ prefix ++ rest) × Appends held held' prefix
Writes end held held' out = Appends held held' out

-- on a connection that wasn't broken, the stream or a record of it breaks in this piece, and then these bytes
-- are pending
abbrev pub BreaksIn : Read_at → State → ℕ → Served → List ℕ → Type 0
BreaksIn piece old id served out =
    IfSome (old.connection id) (λ c. ReachedBreak piece.1 old.served c.pending (c.rest ++ piece.0) served out)

-- a hub, and the bytes that the writer holds, if they are known
pub record Writing (A : Type 0) : Type 0 where
  pub hub : Hub A
  pub held : Option (List ℕ)

-- turns, one for each piece, and all bytes that they take
abbrev pub Turns : ℕ → List Read_at → State → List ℕ → State → Type 0
Turns id [] old written new = (written ≡ []) × (new ≡ old)
Turns id (piece ∷ pieces) old written new =
    (mid : State) × (out : List ℕ) × (others : List ℕ) × Turn id piece old out mid × Turns id pieces mid others new
    × (written ≡ out ++ others)

abbrev pub bytes_of : List Read_at → List ℕ
bytes_of pieces = flat_map (λ p. p.0) pieces

-- a piece has at least a byte and at most 4,096
abbrev pub IsPiece : List ℕ → Type 0
IsPiece piece = (0 < length piece) × (length piece ≤ MAX_PIECE)

abbrev pub ArePieces : List Read_at → Type 0
ArePieces [] = Unit {0}
ArePieces (piece ∷ pieces) = IsPiece piece.0 × ArePieces pieces

-- At most `most` turns of an open connection, from one state of the hub to another. The pieces were read,
-- each of 1 to 4,096 bytes, and these bytes were taken.
pub record TurnsRun {A : Type 0} (id most : ℕ) (old : State) (hub : Hub A) (left left' : Option (List ℕ)) : Type 0 where
  pub pieces : List Read_at
  pub written : List ℕ
  pub state : State
  pub turns : Turns id pieces old written state
  pub is : IsHub hub state
  pub read : Consumes left left' (bytes_of pieces)
  pub few : length pieces ≤ most
  pub are : ArePieces pieces

-- in the last turn the stream or a record of it breaks
pub record BrokeLast (id : ℕ) (old : State) (pieces : List Read_at) (written : List ℕ) (new : State) : Type 0 where
  pub earlier : List Read_at
  pub last : Read_at
  pub in_turn : pieces ≡ earlier ++ last ∷ []
  pub before : State
  pub out : List ℕ
  pub others : List ℕ
  pub turns : Turns id earlier old others before
  pub taken : written ≡ others ++ out
  pub breaks : BreaksIn last before id new.served out

-- The connection when its turns end. If it isn't broken, it is after a complete record or inside one.
abbrev pub IsLeft : ServeEnd → Option Connected → Type 0
IsLeft Ended (Some c) = (c.broken ≡ false) × (c.rest ≡ [])
IsLeft Inside (Some c) = (c.broken ≡ false) × (c.rest ≢ [])
IsLeft Broken (Some c) = c.broken ≡ true
IsLeft Memory (Some c) = c.broken ≡ true
IsLeft Read (Some c) = c.broken ≡ false
IsLeft TurnsUsedUp (Some c) = c.broken ≡ false
IsLeft TooMany (Some c) = ⊥
IsLeft Write (Some c) = Unit {0}
IsLeft end None = ⊥

-- the course of turns: the state before them, the pieces that come, the bytes that are taken, and the state after them
pub record Course : Type 0 where
  pub old : State
  pub pieces : List Read_at
  pub written : List ℕ
  pub new : State

-- The reason why turns end. The input is at its end; the stream or a record broke the connection;
-- all turns are used up; or memory, the reader or the writer failed.
abbrev pub EndsFor : ServeEnd → ℕ → ℕ → Option (List ℕ) → Course → Type 0
EndsFor Ended id most left turns = IsAtEnd left
EndsFor Inside id most left turns = IsAtEnd left
EndsFor Broken id most left turns = BrokeLast id turns.old turns.pieces turns.written turns.new
EndsFor TurnsUsedUp id most left turns = length turns.pieces ≡ most
EndsFor TooMany id most left turns = ⊥
EndsFor end id most left turns = Unit {0}

-- a hub, the bytes left to read, and the bytes that the writer holds, if these are known
pub record Serving (A : Type 0) : Type 0 where
  pub hub : Hub A
  pub left : Option (List ℕ)
  pub held : Option (List ℕ)

-- a connection is refused: the limit of open connections is reached, or no number is left; or an allocation
-- fails
abbrev pub RefusedWith : {A : Type 0} → ServeEnd → Hub A → Type 0
RefusedWith TooMany old = (most_connections old ≤ open_count old) ⊎ (2 ^ 63 ≤ next_number old)
RefusedWith Memory old = (open_count old < most_connections old) × (next_number old < 2 ^ 63)
RefusedWith Ended old = ⊥
RefusedWith Inside old = ⊥
RefusedWith Broken old = ⊥
RefusedWith Read old = ⊥
RefusedWith Write old = ⊥
RefusedWith TurnsUsedUp old = ⊥

-- nothing was read or written, since no connection was opened
pub record IsRefused {A : Type 0} (first : Served) (end : ServeEnd) (events : List Event) (old new : Serving A)
    : Type 0 where
  pub same : IsUnchanged old.hub new.hub
  pub extends : IsHistoryOf first (Connect ∷ events) new.hub
  pub read : Consumes old.left new.left []
  pub wrote : Appends old.held new.held []
  pub ends : RefusedWith end old.hub

-- After events that lead to the hub, a connection is opened with the next number. Its turns read and write
-- these bytes. Then it is closed, which is the step to the hub afterwards.
pub record IsServed {A : Type 0} (first : Served) (end : ServeEnd) (most : ℕ) (events : List Event)
    (old new : Serving A) : Type 0 where
  pub start : State
  pub extends : IsHistory first (Connect ∷ events) start
  pub turned : Hub A
  pub run : TurnsRun (next_number old.hub) most start turned old.left new.left
  pub wrote : Writes end old.held new.held run.written
  pub rests : IsLeft end (run.state.connection (next_number old.hub))
  pub ends : EndsFor end (next_number old.hub) most new.left
      (record { old = start; pieces = run.pieces; written = run.written; new = run.state })
  pub last : State
  pub closes : Step (Close (next_number old.hub)) run.state last
  pub is : IsHub new.hub last

abbrev pub Serves : {A : Type 0} → Served → ServeEnd → ℕ → List Event → Serving A → Serving A → Type 0
Serves first end most events old new =
    IsRefused first end events old new ⊎ IsServed first end most events old new
