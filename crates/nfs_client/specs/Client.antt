-- The state of a client, and the outcome of an exchange.
use Rattle.std.specs.Prelude.{◌≡◌, ◌⊎◌, ℕ, ◌+◌, ◌%◌, ◌^◌, false, List, [], Result, Ok, Err}
use Rattle.rpc_record.specs.Identity.{Identity, identity}
use Rattle.nfs_ops.specs.Operations.{Operation}
use Rattle.nfs_client.specs.Compound.{Call, IsCall, IsTooLarge}
use Rattle.nfs_client.specs.Requests.{asked_of}
use Rattle.nfs_client.specs.Talking.{Talking, IsTalkFault}
use Rattle.nfs_client.specs.declared.client.Client.{Client}
use Rattle.nfs_client.specs.declared.client.Reply.{Reply as ReplyOf}
use Rattle.nfs_client.specs.declared.fault.ToolFault.{ToolFault}
use Rattle.nfs_client.specs.declared.fault.ToolFault.TheVariants.{Memory, TooLarge}

-- the caller: the user, with one group alone
abbrev pub caller_of : {S A : Type 0} → Client S A → Identity
caller_of client = identity client.uid client.gid []

-- the client's next call, of these operations
abbrev pub call_of : {S A : Type 0} → Client S A → List Operation → Call
call_of client ops = record { xid = client.xid; caller = caller_of client; ops = ops }

-- One exchange over a transport: the call is sent, and a record is received after it.
pub record Exchange {S : Type 0} (talks : Talking S) (old new : S) (call : Call)
    (content : List ℕ) : Type 0 where
  pub bytes : List ℕ
  pub is_call : IsCall call bytes
  pub talked : talks old bytes (Ok content) new

-- An exchange that failed: no record was received after the call.
pub record Failing {S : Type 0} (talks : Talking S) (old new : S) (call : Call)
    (fault : ToolFault) : Type 0 where
  pub bytes : List ℕ
  pub is_call : IsCall call bytes
  pub failed : talks old bytes (Err fault) new
  pub of_talk : IsTalkFault fault

-- the next sequence ID
abbrev pub next : ℕ → ℕ
next number = (number + 1) % 2 ^ 32

-- the client's state after an exchange that was begun
pub record Begun {S A : Type 0} (old new : Client S A) : Type 0 where
  pub unusable : new.usable ≡ false
  pub advanced : new.xid ≡ next old.xid
  pub uid : new.uid ≡ old.uid
  pub gid : new.gid ≡ old.gid
  pub client : new.client ≡ old.client
  pub session : new.session ≡ old.session
  pub number : new.number ≡ old.number

-- Nothing of the call is written: an allocation fails, or the call is too large for a record.
abbrev pub IsUnsent : Call → ToolFault → Type 0
IsUnsent call Memory = Unit {0}
IsUnsent call TooLarge = IsTooLarge call
IsUnsent call fault = ⊥

-- the record that was read; or the fault, if no bytes were written or no record was read
abbrev pub ExchangeGives : {S A : Type 0} → Talking S → List Operation → Client S A → Client S A
    → Result (ReplyOf A) ToolFault → Type 0
ExchangeGives talks ops old new (Ok reply) =
    Begun old new × (reply.xid ≡ old.xid) × (reply.asked.items ≡ asked_of ops)
    × Exchange talks old.stream new.stream (call_of old ops) reply.content.items
ExchangeGives talks ops old new (Err fault) =
    (IsUnsent (call_of old ops) fault × (new ≡ old))
    ⊎ (Begun old new × Failing talks old.stream new.stream (call_of old ops) fault)
