-- An approach: a COMPOUND that walks the first names of a route and gets the filehandle at their
-- end (RFC 8881, section 18.8).
use Rattle.std.specs.Prelude.{◌≡◌, ◌≤◌, ◌<◌, ℕ, false, List, [], ◌∷◌, length, Option, Some, None}
use Rattle.std.specs.Prelude.{option_and_then, Result, Ok, Err}
use Rattle.nfs_ops.specs.Operations.{Operation, Known}
use Rattle.nfs_ops.specs.Results.{Outcome, Done}
use Rattle.nfs_ops.specs.declared.OpKind.TheVariants as kinds
use Rattle.nfs_client.specs.Commands.{AskGives, within_session}
use Rattle.nfs_client.specs.Paging.{itself}
use Rattle.nfs_client.specs.Routes.{Route, near, along, route_after}
use Rattle.nfs_client.specs.Talking.{Talking}
use Rattle.nfs_client.specs.Taking.{last_of, taking}
use Rattle.nfs_client.specs.declared.client.Client.{Client}
use Rattle.nfs_client.specs.declared.fault.ToolFault.{ToolFault}

abbrev pub get_handle : Operation
get_handle = Known kinds.GetFh tt

abbrev pub handle_of : Outcome → Option (List ℕ)
handle_of (Done kinds.GetFh v) = Some v
handle_of _ = None

abbrev pub handle_in : List Outcome → Option (List ℕ)
handle_in results = option_and_then handle_of (last_of results)

-- GETFH at the end of a route
abbrev pub approach : {S A : Type 0} → Client S A → Route → List Operation
approach client route = along client route get_handle

module _ {S A : Type 0} (talks : Talking S) where
  -- the exchange that walks a route's first names
  abbrev pub ApproachGives : Route → Client S A → Client S A → Result (List ℕ) ToolFault → Type 0
  ApproachGives route old new result =
      AskGives talks (taking handle_in itself) (within_session (approach old (near route))) old new result

  -- An approach for each of these filehandles, the last first: each returned its filehandle, and more than `most`
  -- names remained before it. No other command runs until this command is over.
  abbrev pub Approaches : ℕ → List (List ℕ) → Client S A → List (List ℕ) → Client S A → Type 0
  Approaches most names old [] new = new ≡ old
  Approaches most names old (handle ∷ before) new =
      (mid : Client S A) × (last : Client S A) × Approaches most names old before mid
      × (most < length (route_after names before).names)
      × ApproachGives (route_after names before) mid last (Ok handle) × (new ≡ record last { usable = false })

  -- The next approach fails, while one is still needed.
  pub record WalkFails (most : ℕ) (names : List (List ℕ)) (old new : Client S A) (fault : ToolFault) : Type 0 where
    pub mid : Client S A
    pub before : List (List ℕ)
    pub goes : Approaches most names old before mid
    pub needed : most < length (route_after names before).names
    pub gives : ApproachGives (route_after names before) mid new (Err fault)

  -- Approaches reach a route with at most `most` remaining names; or an approach fails.
  abbrev pub WalkGives : {X : Type 0} → (X → Route) → ℕ → List (List ℕ) → Client S A → Client S A → Result X ToolFault
      → Type 0
  WalkGives value most names old new (Ok x) =
      (handles : List (List ℕ)) × Approaches most names old handles new × (value x ≡ route_after names handles)
      × (length (value x).names ≤ most)
  WalkGives value most names old new (Err fault) = WalkFails most names old new fault
