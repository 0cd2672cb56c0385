-- Changes that are applied to the clients' state, in order.
use Rattle.std.specs.Prelude.{◌≡◌, ℕ, zero, suc, true, List, [], ◌∷◌, ◌++◌, Ok}
use Rattle.std.specs.List.Sorted.{IsStrictlyIncreasing}
use Rattle.std.proofs.Common.{inl, inr}
use Rattle.xdr_wire.specs.Xdr.{Value}
use Rattle.xdr_wire.specs.Reading.{read_at}
use Rattle.session_slots.specs.declared.session.Held.{Held}
use Rattle.session_slots.specs.Forms.{client, session, call, client_value, session_value, call_value}
use Rattle.session_slots.specs.Registry.{Client, Registry, session_at}
use Rattle.session_slots.specs.Restoring.{numbers_fit, with_numbers, record_fits, with_record, session_fits}
use Rattle.session_slots.specs.Restoring.{with_restored, slot_fits, with_cached}
use Rattle.session_slots.specs.Slots.{Cached}
use Rattle.compound_run.specs.ClientState.{ClientState}
use Rattle.client_parts.specs.Forms.{change, prefix, opened_in}

-- the state with other clients and sessions
abbrev pub with_registry : Registry → ClientState → ClientState
with_registry r k = record k { registry = r }

-- a record that fits is restored
pub record AppliesRecord (old : ClientState) (v : Value client) (new : ClientState) : Type 0 where
  pub restored : Client
  pub written : v ≡ client_value restored
  pub fits : record_fits old.registry restored ≡ true
  pub is : new ≡ with_registry (with_record old.registry restored) old

-- a session that fits is restored
pub record AppliesSession (old : ClientState) (v : Value session) (new : ClientState) : Type 0 where
  pub number : ℕ
  pub held : Held
  pub written : v ≡ session_value number held
  pub fits : session_fits old.registry number held ≡ true
  pub is : new ≡ with_registry (with_restored old.registry number held) old

-- the last call of a slot is restored, if it fits
pub record AppliesCall (old : ClientState) (v : Value call) (new : ClientState) : Type 0 where
  pub at : ℕ
  pub slot : ℕ
  pub kept : Cached
  pub written : v ≡ call_value at slot kept
  pub rising : IsStrictlyIncreasing kept.call.caller.groups
  pub fits : slot_fits (session_at old.registry at) slot kept ≡ true
  pub is : new ≡ with_registry (with_cached old.registry at slot kept) old

-- a change is applied
abbrev pub Applies : ClientState → Value change → ClientState → Type 0
Applies old (inl (next_client, next_session)) new =
    (numbers_fit old.registry next_client next_session ≡ true)
    × (new ≡ with_registry (with_numbers next_client next_session old.registry) old)
Applies old (inr (inl v)) new = AppliesRecord old v new
Applies old (inr (inr (inl v))) new = AppliesSession old v new
Applies old (inr (inr (inr (inl v)))) new = AppliesCall old v new
Applies old (inr (inr (inr (inr (inl v))))) new = new ≡ record old { opens = old.opens ++ opened_in v ∷ [] }
Applies old (inr (inr (inr (inr (inr none))))) new = ⊥

-- the first change of the bytes is applied, and this is the rest of them
abbrev pub AppliesOne : ClientState → List ℕ → ClientState → List ℕ → Type 0
AppliesOne old bytes new rest = (v : Value change) × (read_at change bytes ≡ Ok (v, rest)) × Applies old v new

-- N changes, in order
abbrev pub AppliesAll : ℕ → ClientState → List ℕ → ClientState → List ℕ → Type 0
AppliesAll zero old bytes new rest = (new ≡ old) × (rest ≡ bytes)
AppliesAll (suc n) old bytes new rest =
    (mid : ClientState) × (after : List ℕ) × AppliesOne old bytes mid after × AppliesAll n mid after new rest

-- The bytes begin with the number of the next open, a count N, and N changes, which transition to this state.
pub record AppliesChanges (old : ClientState) (bytes : List ℕ) (new : ClientState) (rest : List ℕ) : Type 0 where
  pub next_open : ℕ
  pub count : ℕ
  pub after : List ℕ
  pub read : read_at prefix bytes ≡ Ok ((next_open, count), after)
  pub extends : AppliesAll count (record old { next_open = next_open }) after new rest
