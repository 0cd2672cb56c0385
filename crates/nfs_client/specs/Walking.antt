-- Commands along paths: approaches, and then the COMPOUND of the command, which walks the remaining names.
use Rattle.std.specs.Prelude.{◌≡◌, ◌⊎◌, ℕ, List, [], ◌∷◌, ◌++◌, length, Result, Ok, Err}
use Rattle.nfs_ops.specs.Operations.{Operation, Known}
use Rattle.nfs_ops.specs.declared.OpKind.TheVariants as kinds
use Rattle.nfs_client.specs.Approach.{WalkGives, WalkFails}
use Rattle.nfs_client.specs.Commands.{sequence, AskGives, within_session, Commanded}
use Rattle.nfs_client.specs.Compound.{IsLarge}
use Rattle.nfs_client.specs.Paging.{itself}
use Rattle.nfs_client.specs.Requests.{Asks}
use Rattle.nfs_client.specs.Routes.{Route, walk, along, most_names, most_of_both, left_of_first}
use Rattle.nfs_client.specs.Talking.{Talking}
use Rattle.nfs_client.specs.Taking.{Taking, no_value}
use Rattle.nfs_client.specs.declared.client.Client.{Client}
use Rattle.nfs_client.specs.declared.request.Request.{Request}
use Rattle.nfs_client.specs.declared.fault.ToolFault.{ToolFault}
use Rattle.nfs_client.specs.declared.fault.ToolFault.TheVariants.{Memory, TooLarge}

abbrev pub save : Operation
save = Known kinds.SaveFh tt

-- along a path, SAVEFH at its end, along another path, and an operation
abbrev pub along_both : {S A : Type 0} → Client S A → Route → Route → Operation → List Operation
along_both client first second op = sequence client ∷ walk first ++ save ∷ walk second ++ op ∷ []

-- the faults of words: the operation that they make can also be too large alone
abbrev pub OrLarge : (Operation → Type 0) → (ToolFault → Type 0) → ToolFault → Type 0
OrLarge asks wrong TooLarge = (op : Operation) × asks op × IsLarge op
OrLarge asks wrong fault = wrong fault

-- the operation of a command, at the end of any names
abbrev pub AnyNames : (List (List ℕ) → Operation → Type 0) → Operation → Type 0
AnyNames asks op = (names : List (List ℕ)) × asks names op

module _ {S A : Type 0} (talks : Talking S) where
  -- The outcome of approaches until at most `most` names remain, and then of a step with the rest of the route; or an
  -- approach fails.
  abbrev pub Walked : {X : Type 0} → ℕ → List (List ℕ) → (Route → Client S A → Result X ToolFault → Type 0)
      → Client S A → Client S A → Result X ToolFault → Type 0
  Walked most names does old new (Ok x) =
      (mid : Client S A) × (route : Route) × WalkGives talks itself most names old mid (Ok route)
      × does route mid (Ok x)
  Walked most names does old new (Err fault) =
      WalkFails talks most names old new fault
      ⊎ ((mid : Client S A) × (route : Route) × WalkGives talks itself most names old mid (Ok route)
      × does route mid (Err fault))

  -- The outcome of a command that sends an operation at the end of a path, unless its words are wrong. It takes a
  -- value of the results.
  abbrev pub CommandResults : {X V : Type 0} → Taking X V → (List (List ℕ) → Operation → Type 0)
      → (ToolFault → Type 0) → Client S A → Client S A → Result X ToolFault → Type 0
  CommandResults takes asks wrong old new result =
      Commanded (OrLarge (AnyNames asks) wrong)
      (λ outcome. (names : List (List ℕ)) × (op : Operation) × asks names op × Walked most_names names
      (λ route mid r. AskGives talks takes (within_session (along mid route op)) mid new r) old new
      outcome) old new result

  -- the outcome of a command that takes no value
  abbrev pub CommandGives : (List (List ℕ) → Operation → Type 0) → (ToolFault → Type 0) → Client S A → Client S A
      → Result (Unit {0}) ToolFault → Type 0
  CommandGives asks wrong old new result = CommandResults no_value asks wrong old new result

  -- The outcome of a command that sends an operation at the ends of two paths, and takes no value. The first path is
  -- walked before the second.
  abbrev pub BothGive : (List (List ℕ) → List (List ℕ) → Operation → Type 0) → (ToolFault → Type 0) → Client S A
      → Client S A → Result (Unit {0}) ToolFault → Type 0
  BothGive asks wrong old new result =
      Commanded (OrLarge (λ op. (names : List (List ℕ)) × AnyNames (asks names) op) wrong)
      (λ outcome. (names : List (List ℕ)) × (others : List (List ℕ)) × (op : Operation) × asks names others op
      × Walked (left_of_first (length names) (length others)) names
      (λ first mid r. Walked most_of_both others
      (λ second last s. AskGives talks no_value (within_session (along_both last first second op)) last new s)
      mid new r)
      old new outcome) old new result

  -- the walk succeeds, and an allocation for the request fails
  pub record Unready (most : ℕ) (names : List (List ℕ)) (old new : Client S A) (fault : ToolFault) : Type 0 where
    pub is_memory : fault ≡ Memory
    pub route : Route
    pub walk : WalkGives talks itself most names old new (Ok route)

  -- The request of an operation at the end of a path, which walks the remaining names. Or an approach fails, or an
  -- allocation for the request does.
  abbrev pub ReadyGives : List (List ℕ) → Operation → Client S A → Client S A → Result (Request A) ToolFault → Type 0
  ReadyGives names op old new (Ok request) =
      (route : Route) × WalkGives talks itself most_names names old new (Ok route)
      × Asks request (along new route op)
  ReadyGives names op old new (Err fault) =
      WalkFails talks most_names names old new fault ⊎ Unready most_names names old new fault

  -- The request of an operation at the ends of two paths. Or an approach of the first or of the second fails, or an
  -- allocation does.
  abbrev pub BothReady : List (List ℕ) → List (List ℕ) → Operation → Client S A → Client S A
      → Result (Request A) ToolFault → Type 0
  BothReady names others op old new (Ok request) =
      (mid : Client S A) × (first : Route) × (second : Route)
      × WalkGives talks itself (left_of_first (length names) (length others)) names old mid
      (Ok first)
      × WalkGives talks itself most_of_both others mid new (Ok second)
      × Asks request (along_both new first second op)
  BothReady names others op old new (Err fault) =
      WalkFails talks (left_of_first (length names) (length others)) names old new fault
      ⊎ ((mid : Client S A) × (first : Route)
      × WalkGives talks itself (left_of_first (length names) (length others)) names old mid
      (Ok first) ×
      (WalkFails talks most_of_both others mid new fault ⊎ Unready most_of_both others mid new fault))
