-- The connections at all places, as the hub has them.
use Rattle.std.specs.Prelude.{◌≡◌, ◌≢◌, ◌⊎◌, ◌≤◌, ℕ, List, length, Option, Some, None, get_or, is_some}
use Rattle.std.specs.List.{count_by}
use Rattle.nfs_hub.specs.declared.hub.Hub.{Hub}
use Rattle.nfs_hub.specs.Machine.{Connected, State}
use Rattle.nfs_hub.specs.Hub.{IsHub, pending_at}
use Rattle.nfs_streams.specs.declared.peer.Peer.{Peer}
use Rattle.nfs_streams.specs.Acts.{Act, conn_at, open_in, ahead, turns_at, fault_at}
use Rattle.nfs_streams.specs.Runs.{MAX_WAITING}

-- the connection of a place
abbrev pub place_at : {A : Type 0} → List (Option (Peer A)) → ℕ → Option (Peer A)
place_at places index = get_or places index None

-- the number of places that are taken
abbrev pub taken : {A : Type 0} → List (Option (Peer A)) → ℕ
taken places = count_by is_some places

-- an open connection at a place
pub record IsHere {A : Type 0} (id : ℕ) (at : Option (Peer A)) (now : Option Connected) : Type 0 where
  pub peer : Peer A
  pub connected : Connected
  pub here : at ≡ Some peer
  pub numbered : peer.conn ≡ id
  pub opened : now ≡ Some connected
  -- it is broken if and only if the hub had a fault at its last bytes
  pub sound : connected.broken ≡ is_some peer.fault

-- a connection that is at no place is closed, if it was opened since the start
pub record IsElsewhere {A : Type 0} (start id : ℕ) (at : Option (Peer A)) (now : Option Connected) : Type 0 where
  pub not_here : (peer : Peer A) → at ≡ Some peer → peer.conn ≢ id
  pub closed : start ≤ id → now ≡ None

abbrev pub Seat : {A : Type 0} → ℕ → ℕ → Option (Peer A) → Option Connected → Type 0
Seat start id at now = IsHere id at now ⊎ IsElsewhere start id at now

-- the known facts about a place: the bytes that were read at it and aren't given yet, the turns of its connection, and
-- the fault at its bytes that were last given
abbrev pub Knows : {A : Type 0} → List Act → ℕ → Peer A → Type 0
Knows acts index peer =
    (ahead acts index ≡ peer.ahead) × (turns_at acts index ≡ peer.turns) × (fault_at acts index ≡ peer.fault)

-- After these acts the connection of a place is the one that was admitted to it. It is at no other place.
abbrev pub IsSeated : {A : Type 0} → (ℕ → ℕ) → List Act → ℕ → Option (Peer A) → Type 0
IsSeated owner acts index None = conn_at acts index ≡ None
IsSeated owner acts index (Some peer) =
    (conn_at acts index ≡ Some peer.conn) × (owner peer.conn ≡ index) × Knows acts index peer

-- no connection has a number that is still to be given
abbrev pub IsFresh : State → Type 0
IsFresh state = (id : ℕ) → state.next ≤ id → state.connection id ≡ None

-- After these acts the hub represents this state of the machine. Its connections since the start are exactly those at
-- the places.
pub record AreSeats {A : Type 0} (start : ℕ) (hub : Hub A) (places : List (Option (Peer A))) (acts : List Act)
    (machine : State) : Type 0 where
  pub is : IsHub hub machine
  pub fresh : IsFresh machine
  -- the place of a number's connection, if any
  pub owner : ℕ → ℕ
  pub each : (id : ℕ) → Seat start id (place_at places (owner id)) (machine.connection id)
  pub seated : (index : ℕ) → IsSeated owner acts index (place_at places index)
  pub count : open_in acts ≡ taken places

-- these bytes are pending on the connection of a number, if it is open
abbrev pub AreWaiting : {A : Type 0} → Hub A → ℕ → List ℕ → Type 0
AreWaiting hub id bytes = (pending : List ℕ) → pending_at hub id ≡ Some pending → pending ≡ bytes

-- at most `MAX_WAITING` bytes are pending on the connection of a number, if it is open
abbrev pub FewAreWaiting : {A : Type 0} → Hub A → ℕ → Type 0
FewAreWaiting hub id = (pending : List ℕ) → pending_at hub id ≡ Some pending → length pending ≤ MAX_WAITING
