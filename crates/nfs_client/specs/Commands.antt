-- The operations of a command, and its outcome.
use Rattle.std.specs.Prelude.{◌≡◌, ◌⊎◌, ℕ, ◌==◌, ◌&&◌, not, Bool, true, false, if◌then◌else◌, List, [], ◌∷◌, ◌++◌}
use Rattle.std.specs.Prelude.{map, Option, Some, None, Result, Ok, Err}
use Rattle.nfs_types.specs.Status as statuses
use Rattle.nfs_ops.specs.Operations.{Operation, Known}
use Rattle.nfs_ops.specs.Results.{Outcome}
use Rattle.nfs_ops.specs.declared.OpKind.TheVariants as kinds
use Rattle.nfs_client.specs.Paths.{names_in}
use Rattle.nfs_client.specs.Compound.{Answer, AllDone, LastRefused, NoReply, results_to, IsTooLarge}
use Rattle.nfs_client.specs.Requests.{asked_of}
use Rattle.nfs_client.specs.Client.{Begun, Exchange, Failing, call_of, next}
use Rattle.nfs_client.specs.Talking.{Talking}
use Rattle.nfs_client.specs.Taking.{Taking}
use Rattle.nfs_client.specs.declared.client.Client.{Client}
use Rattle.nfs_client.specs.declared.fault.ToolFault.{ToolFault}
use Rattle.nfs_client.specs.declared.fault.ToolFault.TheVariants.{Path, Refused, Reply, Read, Write, Memory, Entry}
use Rattle.nfs_client.specs.declared.fault.ToolFault.TheVariants.{Failed, TooLarge}

-- ---- operations

-- SEQUENCE on slot 0, the only slot, by its next sequence ID
abbrev pub sequence : {S A : Type 0} → Client S A → Operation
sequence client = Known kinds.Sequence (client.session, (client.number, (0, (0, false))))

abbrev pub lookup : List ℕ → Operation
lookup name = Known kinds.Lookup name

abbrev pub lookups : List (List ℕ) → List Operation
lookups names = map lookup names

-- ---- words

-- the path is the names of the directory, from the root on, and then this name
abbrev pub IsIn : List ℕ → List (List ℕ) → List ℕ → Type 0
IsIn path directory name = names_in path ≡ Some (directory ++ name ∷ [])

-- the text is no path, or it is `/`, which has no last name
abbrev pub HasNoName : List ℕ → Type 0
HasNoName path = (names_in path ≡ None) ⊎ (names_in path ≡ Some [])

-- ---- outcomes

-- an exchange whose reply has this answer
abbrev pub Answered : {S A : Type 0} → Talking S → List Operation → Client S A → Client S A → Answer → Type 0
Answered talks ops old new answer =
    (content : List ℕ) × Exchange talks old.stream new.stream (call_of old ops) content
    × ((results_to old.xid (asked_of ops) content).answer ≡ answer)

-- an exchange whose reply has all operations OK, and this value in its results
abbrev pub ReplyHas : {S A V : Type 0} → Talking S → (List Outcome → Option V) → List Operation → Client S A
    → Client S A → Option V → Type 0
ReplyHas talks taken ops old new v =
    (content : List ℕ) × Exchange talks old.stream new.stream (call_of old ops) content
    × ((results_to old.xid (asked_of ops) content).answer ≡ AllDone)
    × (taken (results_to old.xid (asked_of ops) content).results ≡ v)

-- The sequence ID of the slot's next call after a call in the session, or after any other call.
abbrev pub number_after : Bool → ℕ → ℕ
number_after in_session number = if in_session then next number else number

-- A refused SEQUENCE (53) doesn't consume the sequence ID.
abbrev pub takes_number : Bool → ℕ → Bool
takes_number in_session op = in_session && not (op == 53)

-- the client's state after an exchange by its reply
abbrev pub Concludes : {S A X : Type 0} → Bool → Result X ToolFault → Client S A → Client S A → Type 0
Concludes in_session (Ok x) old new = new ≡ record old { usable = true; number = number_after in_session old.number }
Concludes in_session (Err (Refused op status)) old new =
    new ≡ record old { usable = true; number = number_after (takes_number in_session op) old.number }
Concludes in_session (Err fault) old new = new ≡ old

-- If an allocation failed after an exchange, no other command runs afterwards.
abbrev pub Spoils : {S A X : Type 0} → Result X ToolFault → Client S A → Client S A → Type 0
Spoils (Err Memory) old new = new ≡ record old { usable = false }
Spoils outcome old new = new ≡ old

-- If an allocation failed or a call was too large in the middle of the command, no other command runs.
abbrev pub Breaks : {S A X : Type 0} → Result X ToolFault → Client S A → Client S A → Type 0
Breaks (Err Memory) old new = new ≡ record old { usable = false }
Breaks (Err TooLarge) old new = new ≡ record old { usable = false }
Breaks outcome old new = new ≡ old

-- the exchange is over, and the next call of the slot has this sequence ID
pub record Settled {S A : Type 0} (old new : Client S A) (number : ℕ) : Type 0 where
  pub usable : new.usable ≡ true
  pub advanced : new.xid ≡ next old.xid
  pub uid : new.uid ≡ old.uid
  pub gid : new.gid ≡ old.gid
  pub client : new.client ≡ old.client
  pub session : new.session ≡ old.session
  pub numbered : new.number ≡ number

-- No record was read after the call, and no other command runs.
abbrev pub GivesUp : {S A : Type 0} → Talking S → List Operation → Client S A → Client S A → ToolFault → Type 0
GivesUp talks ops old new fault =
    Begun old new × Failing talks old.stream new.stream (call_of old ops) fault

-- A record was read that is no reply to the call, or a reply whose results don't have the value; no other command
-- runs.
abbrev pub NoAnswer : {S A V : Type 0} → Talking S → (List Outcome → Option V) → List Operation → Client S A
    → Client S A → Type 0
NoAnswer talks taken ops old new =
    Begun old new × (Answered talks ops old new NoReply ⊎ ReplyHas talks taken ops old new None)

-- A record was read, and an allocation for its content failed; no other command runs.
abbrev pub Unjudged : {S A : Type 0} → Talking S → List Operation → Client S A → Client S A → Type 0
Unjudged talks ops old new =
    Begun old new × (content : List ℕ) × Exchange talks old.stream new.stream (call_of old ops) content

-- An allocation failed: before the first byte of the call, while the record after it was read, or for its content.
abbrev pub NoMemory : {S A : Type 0} → Talking S → List Operation → Client S A → Client S A → Type 0
NoMemory talks ops old new =
    (new ≡ old) ⊎ (GivesUp talks ops old new Memory ⊎ Unjudged talks ops old new)

-- the operations of a call, and whether the call is in the session
pub record Asked : Type 0 where
  pub ops : List Operation
  pub in_session : Bool

abbrev pub within_session : List Operation → Asked
within_session ops = record { ops = ops; in_session = true }

abbrev pub outside_session : List Operation → Asked
outside_session ops = record { ops = ops; in_session = false }

-- The outcome of operations with a value of their results. The value was taken, the last operation run was refused,
-- or no other command runs.
abbrev pub AskGives : {S A X V : Type 0} → Talking S → Taking X V → Asked → Client S A → Client S A
    → Result X ToolFault → Type 0
AskGives talks takes asked old new (Ok x) =
    ReplyHas talks takes.taken asked.ops old new (Some (takes.value x))
    × Settled old new (number_after asked.in_session old.number)
AskGives talks takes asked old new (Err (Refused op status)) =
    Answered talks asked.ops old new (LastRefused op (statuses.number_of status))
    × Settled old new (number_after (takes_number asked.in_session op) old.number)
AskGives talks takes asked old new (Err Memory) = NoMemory talks asked.ops old new
AskGives talks takes asked old new (Err TooLarge) = IsTooLarge (call_of old asked.ops) × (new ≡ old)
AskGives talks takes asked old new (Err Reply) =
    GivesUp talks asked.ops old new Reply ⊎ NoAnswer talks takes.taken asked.ops old new
AskGives talks takes asked old new (Err Read) = GivesUp talks asked.ops old new Read
AskGives talks takes asked old new (Err Write) = GivesUp talks asked.ops old new Write
AskGives talks takes asked old new (Err Path) = ⊥
AskGives talks takes asked old new (Err Entry) = ⊥
AskGives talks takes asked old new (Err Failed) = ⊥

-- The outcome of a command, unless its words are wrong: then no operation is sent. On a client that isn't usable no
-- command runs. An allocation may fail before an operation is sent. No operation is sent either if the one of the
-- words is too large alone.
abbrev pub Commanded : {S A X : Type 0} → (ToolFault → Type 0) → (Result X ToolFault → Type 0) → Client S A
    → Client S A → Result X ToolFault → Type 0
Commanded wrong gives old new (Err Failed) = (old.usable ≡ false) × (new ≡ old)
Commanded wrong gives old new (Err Path) = wrong Path × (new ≡ old)
Commanded wrong gives old new (Err Entry) = wrong Entry × (new ≡ old)
Commanded wrong gives old new (Err Memory) = (new ≡ old) ⊎ gives (Err Memory)
Commanded wrong gives old new (Err TooLarge) = (wrong TooLarge × (new ≡ old)) ⊎ gives (Err TooLarge)
Commanded wrong gives old new result = gives result
