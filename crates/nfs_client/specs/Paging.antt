-- Commands that request one page after the other, up to an end. The operations of each page depend on the pages
-- before it, the last of them first.
use Rattle.std.specs.Prelude.{◌≡◌, ◌⊎◌, ◌<◌, ℕ, Bool, true, false, List, [], ◌∷◌, length, Option, Result, Ok, Err}
use Rattle.nfs_ops.specs.Operations.{Operation}
use Rattle.nfs_ops.specs.Results.{Outcome}
use Rattle.nfs_client.specs.Commands.{AskGives, within_session, Spoils}
use Rattle.nfs_client.specs.Talking.{Talking}
use Rattle.nfs_client.specs.Taking.{taking}
use Rattle.nfs_client.specs.declared.client.Client.{Client}
use Rattle.nfs_client.specs.declared.fault.ToolFault.{ToolFault}
use Rattle.nfs_client.specs.declared.fault.ToolFault.TheVariants.{Reply}

-- the most calls of one command
abbrev pub most_calls : ℕ
most_calls = 10000

abbrev pub itself : {V : Type 0} → V → V
itself v = v

-- The pages of a command: the operations after earlier pages, the value of their results, and whether it is the last
-- page.
pub record Paging (S A V : Type 0) : Type 1 where
  pub talks : Talking S
  pub asks : Client S A → List V → List Operation
  pub taken : List Outcome → Option V
  pub ends : V → Bool

-- a client, and what it has gathered from the pages before
pub record Gathered (S A X : Type 0) : Type 0 where
  pub client : Client S A
  pub gathered : X

abbrev pub gathered_so_far : {S A X : Type 0} → Client S A → X → Gathered S A X
gathered_so_far client gathered = record { client = client; gathered = gathered }

module _ {S A V : Type 0} (paging : Paging S A V) where
  -- the outcome of the exchange after these pages
  abbrev pub PageGives : List V → Client S A → Client S A → Result V ToolFault → Type 0
  PageGives before old new result =
      AskGives paging.talks (taking paging.taken itself) (within_session (paging.asks old before)) old new result

  -- an exchange for each of these pages, before the last one
  abbrev pub Goes : Client S A → List V → Client S A → Type 0
  Goes old [] new = new ≡ old
  Goes old (v ∷ before) new =
      (mid : Client S A) × Goes old before mid × (paging.ends v ≡ false) × PageGives before mid new (Ok v)

  -- The exchange after some pages fails. If an allocation failed no other command runs.
  abbrev pub Stops : Client S A → Client S A → ToolFault → Type 0
  Stops old new fault =
      (mid : Client S A) × (last : Client S A) × (before : List V) × Goes old before mid
      × (length before < most_calls) × PageGives before mid last (Err fault) × Spoils {X = V} (Err fault) last new

  -- the most pages were received, and none of them was the last
  abbrev pub IsTooLong : Client S A → Client S A → Type 0
  IsTooLong old new =
      (mid : Client S A) × (before : List V) × Goes old before mid × (length before ≡ most_calls)
      × (new ≡ record mid { usable = false })

  -- All pages up to the last, at most as many as the most calls; or an exchange fails; or the pages are too many.
  abbrev pub PagesGive : {X W : Type 0} → (X → W) → (List V → W) → Client S A → Client S A → Result X ToolFault → Type 0
  PagesGive value whole old new (Ok x) =
      (mid : Client S A) × (before : List V) × (last : V) × Goes old before mid × (length before < most_calls)
      × PageGives before mid new (Ok last) × (paging.ends last ≡ true) × (value x ≡ whole (last ∷ before))
  PagesGive value whole old new (Err Reply) = Stops old new Reply ⊎ IsTooLong old new
  PagesGive value whole old new (Err fault) = Stops old new fault
