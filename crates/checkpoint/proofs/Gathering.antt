-- The parts of a checkpoint, read in order.
use Rattle.std.proofs.Common.{◌≡◌, ℕ, zero, suc, ◌+◌, ◌-◌, ◌<◌, ◌≤◌, true, false, List, [], ◌∷◌, ◌++◌, length, map, take, drop, get_or, slice_index_or, refl, sym, ◌∙◌, ap, subst, arith, Err, add-one, drop-cons, length-drop, Some, None}
use Rattle.std.proofs.lemmas.List.{nil_from_length, take_all, take-map, take-append-drop, length-take-le}
use Rattle.std.specs.Prelude.{Option}
use Rattle.xdr_wire.specs.Xdr.{Value}
use Rattle.xdr_wire.specs.Reading.{read_at}
use Rattle.nfs_types.specs.Limits.{Limits}
use Rattle.who_book.specs.Content.{Content}
use Rattle.node_tree.specs.World.{World}
use Rattle.node_tree.specs.Restored.{Begun, is_whole}
use Rattle.tree_parts.specs.Parts.{part}
use Rattle.tree_parts.specs.Taken.{Takes, TakesAll}
use Rattle.store_journal.specs.Disk.{Bytes}
use Rattle.compound_run.specs.ClientState.{ClientState, unknown}
use Rattle.client_parts.specs.PartCount.{client_part_count}
use Rattle.checkpoint.specs.declared.fault.CheckpointFault.{CheckpointFault}
use Rattle.checkpoint.specs.declared.fault.CheckpointFault.TheVariants.{Profile, Corrupt, Memory}
use Rattle.checkpoint.specs.Head.{HeadStates}
use Rattle.checkpoint.specs.Kept.{Kept}
use Rattle.checkpoint.specs.Holds.{ReadsParts, Restores, AppliesWhole, AppliesParts, BeginsClients, Holds, HoldsAfter, IsOfOther}
use Rattle.checkpoint.specs.Reading.{ReadingGives}
use Rattle.checkpoint.specs.internal.Reading.{TakesBytes, TakingGives, RestoringGives, ApplyingWholeGives}
use Rattle.checkpoint.specs.internal.Reading.{ApplyingPartsGives, HeadGives}
use Rattle.checkpoint.proofs.One.{are_enough, clients_taken, one_reading, restored_limits, states_not_other, states_one, takes_one, tree_taken, whole_one}

-- ---- parts

module _ (limits : Limits) where
  -- the remaining parts complete the tree that all of them encode
  pub record IsTaking (parts : List Bytes) (so_far : Option Begun) (left : List Bytes) : Type 0 where
    pub whole : (w : World) → Restores limits so_far left w → Restores limits None parts w
    pub rest : (w : World) → Restores limits None parts w → Restores limits so_far left w

  pub taking_begun : (parts left : List Bytes) → left ≡ parts → IsTaking parts None left
  taking_begun parts left same = record {
    whole = λ w r. subst (λ (l : List Bytes). Restores limits None l w) same r;
    rest = λ w r. subst (λ (l : List Bytes). Restores limits None l w) (sym same) r;
  }

  module _ (so_far : Option Begun) (bytes : Bytes) (left : List Bytes) (more : Begun) (takes : TakesBytes limits so_far bytes more) where
    onward : (values : List (Value part)) (begun : Begun) → ReadsParts (bytes ∷ left) values → TakesAll limits so_far values (Some begun) → (w : World) → is_whole begun.world ≡ true → w ≡ begun.world → Restores limits (Some more) left w
    onward [] begun read taken w whole is = elim read [ ]
    onward (v ∷ values) begun read (next, first, others) w whole is =
        let value : v ≡ takes.0 = (one_reading (read_at part bytes) v takes.0 [] [] read.0 takes.1).0 in
        let same : next ≡ more = takes_one limits so_far takes.0 next more (subst (λ (u : Value part). Takes limits so_far u next) value first) takes.2 in
        record {
          values = values;
          read = read.1;
          begun = begun;
          taken = subst (λ (m : Begun). TakesAll limits (Some m) values (Some begun)) same others;
          whole = whole;
          world_is = is;
        }

  pub taking_more : (parts : List Bytes) (so_far : Option Begun) (all : List Bytes) (bytes : Bytes) (left : List Bytes) (more : Begun) → IsTaking parts so_far all → all ≡ bytes ∷ left → TakesBytes limits so_far bytes more → IsTaking parts (Some more) left
  taking_more parts so_far all bytes left more old is takes = record {
    whole = λ w r. old.whole w (subst (λ (l : List Bytes). Restores limits so_far l w) (sym is) (record {
      values = takes.0 ∷ r.values;
      read = (takes.1, r.read);
      begun = r.begun;
      taken = (more, takes.2, r.taken);
      whole = r.whole;
      world_is = r.world_is;
    }));
    rest = λ w r.
        let q : Restores limits so_far (bytes ∷ left) w = subst (λ (l : List Bytes). Restores limits so_far l w) is (old.rest w r) in
        onward so_far bytes left more takes q.values q.begun q.read q.taken w q.whole q.world_is;
  }

  pub taking_done : (parts : List Bytes) (so_far : Option Begun) (b : Begun) (left : List Bytes) → so_far ≡ Some b → IsTaking parts so_far left → left ≡ [] → is_whole b.world ≡ true → (w : World) → w ≡ b.world → Restores limits None parts w
  taking_done parts so_far b left some t none whole w is = t.whole w (subst (λ (l : List Bytes). Restores limits so_far l w) (sym none) (record { values = []; read = tt; begun = b; taken = some; whole = whole; world_is = is }))

  -- if no part is left, all were taken
  ended : (so_far : Option Begun) (values : List (Value part)) (begun : Begun) → ReadsParts [] values → TakesAll limits so_far values (Some begun) → so_far ≡ Some begun
  ended so_far [] begun read taken = taken
  ended so_far (v ∷ values) begun read taken = elim read [ ]

  at_end : (so_far : Option Begun) (left : List Bytes) (w : World) → left ≡ [] → (r : Restores limits so_far left w) → so_far ≡ Some r.begun
  at_end so_far left w none r = ended so_far r.values r.begun (subst (λ (l : List Bytes). ReadsParts l r.values) none r.read) r.taken

  pub taking_none : (parts : List Bytes) (so_far : Option Begun) (left : List Bytes) → so_far ≡ None → IsTaking parts so_far left → left ≡ [] → (w : World) → Restores limits None parts w → ⊥
  taking_none parts so_far left not t none w r = never (sym not ∙ at_end so_far left w none (t.rest w r))
    where
      never : {b : Begun} → None ≡ Some b → ⊥
      never e = cc

  pub taking_unwhole : (parts : List Bytes) (so_far : Option Begun) (b : Begun) (left : List Bytes) → so_far ≡ Some b → IsTaking parts so_far left → left ≡ [] → is_whole b.world ≡ false → (w : World) → Restores limits None parts w → ⊥
  taking_unwhole parts so_far b left some t none unwhole w r =
      let q = t.rest w r in
      let same : b ≡ q.begun = some_one b q.begun (sym some ∙ at_end so_far left w none q) in
      never (sym unwhole ∙ ap (λ (c : Begun). is_whole c.world) same ∙ q.whole)
    where
      some_one : (b c : Begun) → Some b ≡ Some c → b ≡ c
      some_one b c e = cc

      never : false ≡ true → ⊥
      never e = cc

  untaken : (so_far : Option Begun) (bytes : Bytes) (left : List Bytes) → ((more : Begun) → TakesBytes limits so_far bytes more → ⊥) → (values : List (Value part)) (begun : Begun) → ReadsParts (bytes ∷ left) values → TakesAll limits so_far values (Some begun) → ⊥
  untaken so_far bytes left not [] begun read taken = elim read [ ]
  untaken so_far bytes left not (v ∷ values) begun read (next, first, others) = not next (v, read.0, first)

  pub taking_not : (parts : List Bytes) (so_far : Option Begun) (all : List Bytes) (bytes : Bytes) (left : List Bytes) → IsTaking parts so_far all → all ≡ bytes ∷ left → ((more : Begun) → TakesBytes limits so_far bytes more → ⊥) → (w : World) → Restores limits None parts w → ⊥
  taking_not parts so_far all bytes left t is not w r =
      let q : Restores limits so_far (bytes ∷ left) w = subst (λ (l : List Bytes). Restores limits so_far l w) is (t.rest w r) in
      untaken so_far bytes left not q.values q.begun q.read q.taken

-- ---- pieces by their places

pub at_place : {X : Type 0} (view : X → Bytes) (xs : List X) (i : ℕ) (d : X) → i < length xs → map view (drop i xs) ≡ view (get_or xs i d) ∷ map view (drop (i + 1) xs)
at_place view xs i d h = rw (add-one, drop-cons xs i d) refl

pub at_last : {X : Type 0} (view : X → Bytes) (xs : List X) (i : ℕ) → length xs ≤ i → map view (drop i xs) ≡ []
at_last view xs i h = ap (map view) (nil_from_length (drop i xs) (omega (arith, length-drop i xs)))

-- ---- faults

pub restored_fault : (limits : Limits) (parts : List Bytes) (so_far : Option Begun) (all : List Bytes) (bytes : Bytes) (left : List Bytes) (fault : CheckpointFault) → IsTaking limits parts so_far all → all ≡ bytes ∷ left → TakingGives limits so_far bytes (Err fault) → RestoringGives limits parts (Err fault)
restored_fault limits parts so_far all bytes left Profile t is it = it
restored_fault limits parts so_far all bytes left Corrupt t is it = taking_not limits parts so_far all bytes left t is it
restored_fault limits parts so_far all bytes left Memory t is it = tt

-- ---- clients

-- the remaining parts lead to the clients to which all of them lead
pub record IsApplying (start : ClientState) (parts : List Bytes) (now : ClientState) (left : List Bytes) : Type 0 where
  pub whole : (k : ClientState) → AppliesParts now left k → AppliesParts start parts k
  pub rest : (k : ClientState) → AppliesParts start parts k → AppliesParts now left k

pub applying_begun : (start : ClientState) (parts : List Bytes) (now : ClientState) → now ≡ start → IsApplying start parts now parts
applying_begun start parts now is = record {
  whole = λ k l. subst (λ (n : ClientState). AppliesParts n parts k) is l;
  rest = λ k l. subst (λ (n : ClientState). AppliesParts n parts k) (sym is) l;
}

module _ (start : ClientState) (parts : List Bytes) (now : ClientState) (all : List Bytes) (so_far : IsApplying start parts now all) where
  pub applying_done : all ≡ [] → AppliesParts start parts now
  applying_done none = so_far.whole now (subst (λ (l : List Bytes). AppliesParts now l now) (sym none) refl)

  module _ (bytes : Bytes) (left : List Bytes) (is : all ≡ bytes ∷ left) where
    pub applying_more : (more : ClientState) → AppliesWhole now bytes more → IsApplying start parts more left
    applying_more more applies = record {
      whole = λ k l. so_far.whole k (subst (λ (x : List Bytes). AppliesParts now x k) (sym is) (more, applies, l));
      rest = λ k l.
          let q : AppliesParts now (bytes ∷ left) k = subst (λ (x : List Bytes). AppliesParts now x k) is (so_far.rest k l) in
          subst (λ (m : ClientState). AppliesParts m left k) (whole_one now bytes q.0 more q.1 applies) q.2;
    }

    pub applying_fault : (after : ClientState) (fault : CheckpointFault) → ApplyingWholeGives now bytes (Err fault) after → ApplyingPartsGives start parts (Err fault)
    applying_fault after Profile it = it
    applying_fault after Corrupt it = λ k l.
        let q : AppliesParts now (bytes ∷ left) k = subst (λ (x : List Bytes). AppliesParts now x k) is (so_far.rest k l) in
        it q.0 q.1
    applying_fault after Memory it = tt

-- one part more is applied
pub applied_more : (old : ClientState) (parts : List Bytes) (mid : ClientState) (bytes : Bytes) (new : ClientState) → AppliesParts old parts mid → AppliesWhole mid bytes new → AppliesParts old (parts ++ bytes ∷ []) new
applied_more old [] mid bytes new is one = (new, subst (λ (k : ClientState). AppliesWhole k bytes new) is one, refl)
applied_more old (b ∷ parts) mid bytes new (k, first, others) one = (k, first, applied_more k parts mid bytes new others one)

-- ---- the parts by their places

all_taken : {X : Type 0} (n : ℕ) (xs : List X) → n ≡ length xs → take n xs ≡ xs
all_taken n xs is = take_all n xs (omega (arith, is))

pub first_part : {X : Type 0} (view : X → Bytes) (parts : List X) (d : X) → 1 ≤ length parts
    → map view parts ≡ view (slice_index_or parts 0 d) ∷ map view (take (length parts - 1) (drop 1 parts))
first_part view [] d h = absurd (omega (arith, h))
first_part view (a ∷ parts) d h = ap (λ l. view a ∷ map view l) (sym (all_taken (length (a ∷ parts) - 1) parts (omega arith)))

drop_map : {X : Type 0} (view : X → Bytes) (n : ℕ) (xs : List X) → drop n (map view xs) ≡ map view (drop n xs)
drop_map view zero xs = refl
drop_map view (suc n) [] = refl
drop_map view (suc n) (x ∷ xs) = drop_map view n xs

-- the first parts, and those after them
pub front_is : {X : Type 0} (view : X → Bytes) (n : ℕ) (parts front : List X) → front ≡ take n parts → map view front ≡ take n (map view parts)
front_is view n parts front is = ap (map view) is ∙ sym (take-map view n parts)

pub back_is : {X : Type 0} (view : X → Bytes) (n : ℕ) (parts back : List X) → back ≡ drop n parts → map view back ≡ drop n (map view parts)
back_is view n parts back is = ap (map view) is ∙ sym (drop_map view n parts)

-- ---- a checkpoint

pub none_held : {X : Type 0} (view : X → Bytes) (parts : List X) → length parts < 1 → (kept : Kept) → Holds (map view parts) kept → ⊥
none_held view [] h kept b = b
none_held view (x ∷ parts) h kept b = omega (arith, h)

pub none_other : {X : Type 0} (view : X → Bytes) (parts : List X) → length parts < 1 → IsOfOther (map view parts) → ⊥
none_other view [] h o = o
none_other view (x ∷ parts) h o = omega (arith, h)

-- the head was read
module _ (parts : List Bytes) (head : Bytes) (others : List Bytes) (is : parts ≡ head ∷ others) where
  held : (kept : Kept) → Holds parts kept → HoldsAfter head others kept
  held kept h = subst (λ (l : List Bytes). Holds l kept) is h

  pub head_fault : (A : Type 0) (fault : CheckpointFault) → HeadGives head (Err fault) → ReadingGives {A = A} parts (Err fault)
  head_fault A Profile it = subst IsOfOther (sym is) it
  head_fault A Corrupt it = (
    λ kept h. it.0 kept.world.limits kept.book (held kept h).states,
    λ o. it.1 (subst IsOfOther is o),
  )
  head_fault A Memory it = λ o. it (subst IsOfOther is o)

  -- its profile has these limits
  module _ (limits : Limits) (book : Content) (states : HeadStates head limits book) where
    pub not_other : IsOfOther parts → ⊥
    not_other o = states_not_other head limits book states (subst IsOfOther is o)

    same_limits : (kept : Kept) → HoldsAfter head others kept → kept.world.limits ≡ limits
    same_limits kept h = (states_one head kept.world.limits limits kept.book book h.states states).0

    pub few_parts : (A : Type 0) → length others < client_part_count limits → ReadingGives {A = A} parts (Err Corrupt)
    few_parts A few = (λ kept h. too_few (client_part_count limits) (length others) few (are_enough head others kept (held kept h) limits (same_limits kept (held kept h))), not_other)
      where
        too_few : (n m : ℕ) → m < n → n ≤ m → ⊥
        too_few n m h g = omega (arith, h, g)

    module _ (clients tree : List Bytes) (front : clients ≡ take (client_part_count limits) others) (back : tree ≡ drop (client_part_count limits) others) where
      pub clients_fault : (A : Type 0) (fault : CheckpointFault) → ApplyingPartsGives (unknown limits) clients (Err fault) → ReadingGives {A = A} parts (Err fault)
      clients_fault A Profile it = absurd it
      clients_fault A Corrupt it = (
        λ kept h. it kept.clients (subst (λ (l : List Bytes). AppliesParts (unknown limits) l kept.clients) (sym front) (clients_taken head others kept (held kept h) limits (same_limits kept (held kept h)))),
        not_other,
      )
      clients_fault A Memory it = not_other

      pub tree_fault : (A : Type 0) (fault : CheckpointFault) → RestoringGives limits tree (Err fault) → ReadingGives {A = A} parts (Err fault)
      tree_fault A Profile it = absurd it
      tree_fault A Corrupt it = (
        λ kept h. it kept.world (subst (λ (l : List Bytes). Restores limits None l kept.world) (sym back) (tree_taken head others kept (held kept h) limits (same_limits kept (held kept h)))),
        not_other,
      )
      tree_fault A Memory it = not_other

      pub all_read : (client_state : ClientState) (w : World) → client_part_count limits ≤ length others → AppliesParts (unknown limits) clients client_state → Restores limits None tree w → Holds parts (record { world = w; clients = client_state; book = book })
      all_read client_state w enough applies restores =
          let limits_are : limits ≡ w.limits = sym (restored_limits limits tree w restores) in
          let n = client_part_count limits in
          let count : length clients ≡ n = ap length front ∙ length-take-le n others enough in
          subst (λ (l : List Bytes). Holds l (record { world = w; clients = client_state; book = book })) (sym is) (record {
            states = subst (λ (l : Limits). HeadStates head l book) limits_are states;
            clients = clients;
            tree = tree;
            others_are = sym (take-append-drop n others) ∙ ap (λ (l : List Bytes). l ++ drop n others) (sym front) ∙ ap (λ (l : List Bytes). clients ++ l) (sym back);
            begins = subst (λ (l : Limits). BeginsClients l clients client_state) limits_are (record { count = count; applies = applies });
            restores = subst (λ (l : Limits). Restores l None tree w) limits_are restores;
          })
