-- A connection of a hub as the transport of a client. A call is one piece of the connection. The record after it is
-- taken from the replies that are pending then.
use Rattle.std.specs.Prelude.{◌≡◌, ◌≢◌, ◌↔◌, ◌⊎◌, ℕ, ◌+◌, true, false, List, ◌∷◌, length, Option, Some, None}
use Rattle.std.specs.Prelude.{IsNone, IsErrOf, is_err, option_map, Result, Ok, Err}
use Rattle.nfs_types.specs.declared.moment.Moment.{Moment}
use Rattle.nfs_hub.specs.Answer.{Served}
use Rattle.nfs_hub.specs.Machine.{Event, Piece, Take}
use Rattle.nfs_hub.specs.Hub.{IsHistoryOf, Goes, BreaksInPiece, broken_at, pending_at}
use Rattle.nfs_hub.specs.declared.hub.Hub.{Hub}
use Rattle.nfs_hub.specs.declared.fault.HubFault.{HubFault}
use Rattle.nfs_hub.specs.declared.fault.HubFault.TheVariants.{TooMany, NoSuch, Broken, Exhausted}
use Rattle.nfs_client.specs.Paging.{itself}
use Rattle.nfs_client.specs.Streams.{RecordGives}
use Rattle.nfs_client.specs.declared.fault.ToolFault.{ToolFault}
use Rattle.nfs_client.specs.declared.fault.ToolFault.TheVariants.{Read, Write}
use Rattle.nfs_tool.specs.declared.local.Local.{Local}

-- both are one connection of one hub, at one moment
pub record IsSameStream {A : Type 0} (old new : Local A) : Type 0 where
  pub same_hub : new.hub.ghost_name ≡ old.hub.ghost_name
  pub conn : new.conn ≡ old.conn
  pub seconds : new.seconds ≡ old.seconds

-- the stream's moment: its whole seconds
pub record IsMomentOf {A : Type 0} (l : Local A) (moment : Moment) : Type 0 where
  pub seconds : moment.seconds ≡ l.seconds
  pub whole : moment.nanoseconds ≡ 0

-- this event changes the hub, and extends each history that leads to it
pub record ExtendsHistory {A : Type 0} (event : Event) (old new : Hub A) : Type 0 where
  pub goes : Goes event old new
  pub extends : (first : Served) (events : List Event) → IsHistoryOf first events old
      → IsHistoryOf first (event ∷ events) new

-- A piece arrives at the connection at the stream's moment, and the hub answers this.
pub record Fed {A : Type 0} (l : Local A) (old : Hub A) (piece : List ℕ) (answer : Result (Unit {0}) HubFault)
    (new : Hub A) : Type 0 where
  pub moment : Moment
  pub is_moment : IsMomentOf l moment
  pub extends : ExtendsHistory (Piece l.conn piece moment) old new
  pub no_such : IsErrOf answer NoSuch ↔ IsNone (broken_at old l.conn)
  pub broken : broken_at new l.conn ≡ option_map (λ was. is_err answer) (broken_at old l.conn)
  pub stays : broken_at old l.conn ≡ Some true → answer ≡ Err Broken
  pub breaks : answer ≡ Err Broken → broken_at old l.conn ≡ Some false → BreaksInPiece l.conn piece moment old new
  pub faults : (answer ≢ Err TooMany) × (answer ≢ Err Exhausted)

-- The first of the pending bytes are taken: a record, or bytes that are no record.
pub record TakesOf {A : Type 0} (conn : ℕ) (pending : List ℕ) (old : Hub A) (result : Result (List ℕ) ToolFault)
    (new : Hub A) : Type 0 where
  pub left : List ℕ
  pub read : RecordGives itself (Some pending) (Some left) result
  pub count : ℕ
  pub counted : count + length left ≡ length pending
  pub extends : ExtendsHistory (Take conn count) old new
  pub stays : pending_at new conn ≡ Some left

-- the first pending record of the connection is taken, if the connection is open
abbrev pub TakesRecord : {A : Type 0} → ℕ → Hub A → Result (List ℕ) ToolFault → Hub A → Type 0
TakesRecord conn old result new =
    ((pending_at old conn ≡ None) × (result ≡ Err Read) × (new ≡ old))
    ⊎ ((pending : List ℕ) × (pending_at old conn ≡ Some pending) × TakesOf conn pending old result new)

-- The call is refused as a piece; or it arrives as one piece, and the first record that is pending then is taken.
abbrev pub LocalTalks : {A : Type 0} → Local A → List ℕ → Result (List ℕ) ToolFault → Local A → Type 0
LocalTalks {A} old call result new =
    IsSameStream old new
    × (((fault : HubFault) × Fed old old.hub.now call (Err fault) new.hub.now × (result ≡ Err Write))
    ⊎ ((mid : Hub A) × Fed old old.hub.now call (Ok tt) mid × TakesRecord old.conn mid result new.hub.now))
