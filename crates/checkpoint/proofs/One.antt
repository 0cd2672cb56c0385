-- Bytes are read as at most one value.
use Rattle.std.proofs.Common.{◌≡◌, ℕ, ◌+◌, ◌≤◌, List, [], ◌∷◌, length, take, drop, refl, sym, ◌∙◌, ap, subst, arith, Ok, Err, inl, inr, Some, None, length-append}
use Rattle.std.specs.Prelude.{Option, Result}
use Rattle.std.proofs.lemmas.List.{take_at, drop_at}
use Rattle.xdr_wire.specs.Xdr.{Value}
use Rattle.xdr_wire.specs.Reading.{read_at}
use Rattle.xdr_wire.specs.declared.fault.XdrFault.{XdrFault}
use Rattle.who_book.specs.Content.{Content}
use Rattle.who_book.specs.Document.{book_from}
use Rattle.who_book.specs.declared.fault.BookFault.{BookFault}
use Rattle.nfs_types.specs.Limits.{Limits, limits_of}
use Rattle.node_tree.specs.World.{World, Name}
use Rattle.node_tree.specs.Restored.{Begun, with_object, with_name}
use Rattle.compound_run.specs.ClientState.{ClientState, unknown}
use Rattle.client_parts.specs.Applying as changing
use Rattle.client_parts.specs.PartCount.{client_part_count}
use Rattle.client_parts.proofs.AppliedChanges.{applies_uniquely as prefix_one}
use Rattle.tree_parts.specs.Parts as parts_of
use Rattle.tree_parts.specs.Parts.{part, name_value}
use Rattle.tree_parts.specs.Taken.{Takes, TakesAll}
use Rattle.tree_parts.proofs.Refusing.{object_one}
use Rattle.store_journal.specs.Disk.{Bytes}
use Rattle.checkpoint.specs.Head.{head, HeadStates, IsHead, NamesOther}
use Rattle.checkpoint.specs.Kept.{Kept}
use Rattle.checkpoint.specs.Holds.{AppliesWhole, AppliesParts, ReadsParts, Restores, HoldsAfter, HoldsOneLaw}

abbrev value_in : {V : Type 0} → V → Result (V × List ℕ) XdrFault → V
value_in d (Ok p) = p.0
value_in d (Err e) = d

abbrev rest_in : {V : Type 0} → List ℕ → Result (V × List ℕ) XdrFault → List ℕ
rest_in d (Ok p) = p.1
rest_in d (Err e) = d

-- reading at one place gives one value and one rest
pub one_reading : {V : Type 0} (r : Result (V × List ℕ) XdrFault) (v w : V) (x y : List ℕ) → r ≡ Ok (v, x) → r ≡ Ok (w, y) → (v ≡ w) × (x ≡ y)
one_reading r v w x y a b = (ap (value_in v) (sym a ∙ b), ap (rest_in x) (sym a ∙ b))

-- ---- clients

abbrev AppliesPrefix : ClientState → Bytes → ClientState → Bytes → Type 0
AppliesPrefix = changing.AppliesChanges

pub whole_one : (old : ClientState) (bytes : Bytes) (a b : ClientState) → AppliesWhole old bytes a → AppliesWhole old bytes b → a ≡ b
whole_one old bytes a b r q = (prefix_one old bytes a b [] [] r q).0

pub applied_one : (parts : List Bytes) (old a b : ClientState) → AppliesParts old parts a → AppliesParts old parts b → a ≡ b
applied_one [] old a b r q = r ∙ sym q
applied_one (bytes ∷ parts) old a b r q =
    let mid : r.0 ≡ q.0 = whole_one old bytes r.0 q.0 r.1 q.1 in
    applied_one parts q.0 a b (subst (λ (k : ClientState). AppliesParts k parts a) mid r.2) q.2

pub whole_not : (old : ClientState) (bytes reader : Bytes) (a : ClientState) (rest : Bytes) → reader ≡ bytes → AppliesPrefix old reader a rest → (rest ≡ [] → ⊥) → (clients : ClientState) → AppliesWhole old bytes clients → ⊥
whole_not old bytes reader a rest same it some clients l = some (prefix_one old bytes a clients rest [] (subst (λ (b : Bytes). AppliesPrefix old b a rest) same it) l).1

-- ---- parts

abbrev written_name : Value parts_of.entry_name → Value part → Value parts_of.entry_name
written_name d (inl v) = d
written_name d (inr (inl v)) = d
written_name d (inr (inr (inl v))) = v
written_name d (inr (inr (inr v))) = d

abbrev name_in : Value parts_of.entry_name → Name
name_in v = record { cookie = v.0; directory = v.1.0; name = v.1.1.0; child = v.1.1.1 }

name_one : (m n : Name) → name_value m ≡ name_value n → m ≡ n
name_one m n h = ap (λ v. name_in (written_name (m.cookie, (m.directory, (m.name, m.child))) v)) h

pub takes_one : (limits : Limits) (old : Option Begun) (v : Value part) (m n : Begun) → Takes limits old v m → Takes limits old v n → m ≡ n
takes_one limits None (inl v) m n t u = t.1 ∙ sym u.1
takes_one limits None (inr v) m n t u = elim t [ ]
takes_one limits (Some old) (inl v) m n t u = elim t [ ]
takes_one limits (Some old) (inr (inl v)) m n (j, o, written_j, fits_j, new_j) (k, p, written_k, fits_k, new_k) =
    let one = object_one j k o p (written_j ∙ sym written_k) in
    new_j ∙ ap (λ (i : ℕ). with_object old i o) one.0 ∙ ap (with_object old k) one.1 ∙ sym new_k
takes_one limits (Some old) (inr (inr (inl v))) m n (x, written_x, fits_x, new_x) (y, written_y, fits_y, new_y) =
    new_x ∙ ap (with_name old) (name_one x y (written_x ∙ sym written_y)) ∙ sym new_y
takes_one limits (Some old) (inr (inr (inr (inl v)))) m n t u = t.1 ∙ sym u.1
takes_one limits (Some old) (inr (inr (inr (inr (inl v))))) m n (j, o, written_j, fits_j, new_j) (k, p, written_k, fits_k, new_k) =
    let one = object_one j k o p (written_j ∙ sym written_k) in
    new_j ∙ ap (λ (i : ℕ). with_object old i o) one.0 ∙ ap (with_object old k) one.1 ∙ sym new_k
takes_one limits (Some old) (inr (inr (inr (inr (inr more))))) m n t u = elim more [ ]

takes_all_one : (limits : Limits) (old : Option Begun) (values : List (Value part)) (m n : Option Begun) → TakesAll limits old values m → TakesAll limits old values n → m ≡ n
takes_all_one limits old [] m n t u = sym t ∙ u
takes_all_one limits old (v ∷ values) m n (x, takes_x, rest_x) (y, takes_y, rest_y) =
    takes_all_one limits (Some x) values m n rest_x (subst (λ (b : Begun). TakesAll limits (Some b) values n) (sym (takes_one limits old v x y takes_x takes_y)) rest_y)

parts_one : (parts : List Bytes) (v w : List (Value part)) → ReadsParts parts v → ReadsParts parts w → v ≡ w
parts_one [] [] [] r q = refl
parts_one [] [] (y ∷ w) r q = elim q [ ]
parts_one [] (x ∷ v) w r q = elim r [ ]
parts_one (b ∷ parts) [] w r q = elim r [ ]
parts_one (b ∷ parts) (x ∷ v) [] r q = elim q [ ]
parts_one (b ∷ parts) (x ∷ v) (y ∷ w) r q =
    ap (λ (z : Value part). z ∷ v) (one_reading (read_at part b) x y [] [] r.0 q.0).0 ∙ ap (λ (l : List (Value part)). y ∷ l) (parts_one parts v w r.1 q.1)

some_one : (b c : Begun) → Some b ≡ Some c → b ≡ c
some_one b c e = cc

restores_one : (limits : Limits) (so_far : Option Begun) (parts : List Bytes) (w v : World) → Restores limits so_far parts w → Restores limits so_far parts v → w ≡ v
restores_one limits so_far parts w v r q =
    let values : r.values ≡ q.values = parts_one parts r.values q.values r.read q.read in
    let begun : r.begun ≡ q.begun = some_one r.begun q.begun (takes_all_one limits so_far q.values (Some r.begun) (Some q.begun) (subst (λ (l : List (Value part)). TakesAll limits so_far l (Some r.begun)) values r.taken) q.taken) in
    r.world_is ∙ ap (λ (b : Begun). b.world) begun ∙ sym q.world_is

-- ---- a tree that is begun under limits has them

limits_stay : (limits : Limits) (old : Begun) (v : Value part) (new : Begun) → Takes limits (Some old) v new → new.world.limits ≡ old.world.limits
limits_stay limits old (inl v) new t = elim t [ ]
limits_stay limits old (inr (inl v)) new (number, o, written, fits, is) = ap (λ (b : Begun). b.world.limits) is
limits_stay limits old (inr (inr (inl v))) new (n, written, fits, is) = ap (λ (b : Begun). b.world.limits) is
limits_stay limits old (inr (inr (inr (inl v)))) new t = ap (λ (b : Begun). b.world.limits) t.1
limits_stay limits old (inr (inr (inr (inr (inl v))))) new (number, o, written, fits, is) = ap (λ (b : Begun). b.world.limits) is
limits_stay limits old (inr (inr (inr (inr (inr more))))) new t = elim more [ ]

all_stay : (limits : Limits) (old : Begun) (values : List (Value part)) (new : Begun) → TakesAll limits (Some old) values (Some new) → new.world.limits ≡ old.world.limits
all_stay limits old [] new t = ap (λ (b : Begun). b.world.limits) (sym (some_one old new t))
all_stay limits old (v ∷ values) new (next, takes, more) = all_stay limits next values new more ∙ limits_stay limits old v next takes

begun_limits : (limits : Limits) (v : Value part) (new : Begun) → Takes limits None v new → new.world.limits ≡ limits
begun_limits limits (inl v) new t = ap (λ (b : Begun). b.world.limits) t.1
begun_limits limits (inr v) new t = elim t [ ]

taken_limits : (limits : Limits) (values : List (Value part)) (new : Begun) → TakesAll limits None values (Some new) → new.world.limits ≡ limits
taken_limits limits [] new t = absurd (never t)
  where
    never : None ≡ Some new → ⊥
    never e = cc
taken_limits limits (v ∷ values) new (next, takes, more) = all_stay limits next values new more ∙ begun_limits limits v next takes

pub restored_limits : (limits : Limits) (parts : List Bytes) (w : World) → Restores limits None parts w → w.limits ≡ limits
restored_limits limits parts w r = ap (λ (v : World). v.limits) r.world_is ∙ taken_limits limits r.values r.begun r.taken

-- ---- the head

-- bytes are one head
pub head_one : (bytes : Bytes) (p q : ℕ) (s t : Option Bytes) → IsHead bytes p s → IsHead bytes q t → (p ≡ q) × (s ≡ t)
head_one bytes p q s t a b =
    let same = (one_reading (read_at head bytes) (p, s) (q, t) [] [] a b).0 in
    (ap (λ (v : Value head). v.0) same, ap (λ (v : Value head). v.1) same)

book_one : (a b : Content) (r : Result Content BookFault) → r ≡ Ok a → r ≡ Ok b → a ≡ b
book_one a b r p q = cc

one_value : {X : Type 0} (x y : X) → Some x ≡ Some y → x ≡ y
one_value x y e = cc

pub states_one : (bytes : Bytes) (l m : Limits) (a b : Content) → HeadStates bytes l a → HeadStates bytes m b → (l ≡ m) × (a ≡ b)
states_one bytes l m a b r q =
    let same = head_one bytes r.profile q.profile r.text q.text r.whole q.whole in (
      one_value l m (sym r.limits_are ∙ ap limits_of same.0 ∙ q.limits_are),
      book_one a b (book_from q.text) (ap book_from (sym same.1) ∙ r.book_is) q.book_is,
    )

-- a head of a profile that exists isn't of another one
pub states_not_other : (bytes : Bytes) (limits : Limits) (book : Content) → HeadStates bytes limits book → NamesOther bytes → ⊥
states_not_other bytes limits book s n =
    never (sym s.limits_are ∙ ap limits_of (head_one bytes s.profile n.profile s.text n.text s.whole n.whole).0 ∙ n.other)
  where
    never : Some limits ≡ None → ⊥
    never e = cc

-- ---- the parts of the clients and those of the tree

module _ (head : Bytes) (others : List Bytes) (kept : Kept) (h : HoldsAfter head others kept) (limits : Limits) (is : kept.world.limits ≡ limits) where
  count_is : length h.clients ≡ client_part_count limits
  count_is = h.begins.count ∙ ap client_part_count is

  pub clients_taken : AppliesParts (unknown limits) (take (client_part_count limits) others) kept.clients
  clients_taken =
      subst (λ (l : List Bytes). AppliesParts (unknown limits) l kept.clients)
      (sym (ap (take (client_part_count limits)) h.others_are ∙ take_at h.clients h.tree (client_part_count limits) count_is))
      (subst (λ (l : Limits). AppliesParts (unknown l) h.clients kept.clients) is h.begins.applies)

  pub tree_taken : Restores limits None (drop (client_part_count limits) others) kept.world
  tree_taken =
      subst (λ (l : List Bytes). Restores limits None l kept.world)
      (sym (ap (drop (client_part_count limits)) h.others_are ∙ drop_at h.clients h.tree (client_part_count limits) count_is))
      (subst (λ (l : Limits). Restores l None h.tree kept.world) is h.restores)

  pub are_enough : client_part_count limits ≤ length others
  are_enough =
      let long : length others ≡ length h.clients + length h.tree = ap length h.others_are ∙ length-append h.clients h.tree in
      let count : length h.clients ≡ client_part_count limits = count_is in
      enough (client_part_count limits) (length h.clients) (length h.tree) (length others) count long
    where
      enough : (n m k all : ℕ) → m ≡ n → all ≡ m + k → n ≤ all
      enough n m k all p q = omega (arith, p, q)

-- ---- a checkpoint

abbrev kept_of : World → ClientState → Content → Kept
kept_of w clients book = record { world = w; clients = clients; book = book }

pub holds_one : HoldsOneLaw
holds_one [] j k h i = absurd h
holds_one (head ∷ others) j k h i =
    let one = states_one head j.world.limits k.world.limits j.book k.book h.states i.states in
    let n = client_part_count k.world.limits in
    let world : j.world ≡ k.world =
    restores_one k.world.limits None (drop n others) j.world k.world (tree_taken head others j h k.world.limits one.0) (tree_taken head others k i k.world.limits refl) in
    let clients : j.clients ≡ k.clients =
    applied_one (take n others) (unknown k.world.limits) j.clients k.clients (clients_taken head others j h k.world.limits one.0) (clients_taken head others k i k.world.limits refl) in
    ap (λ (w : World). kept_of w j.clients j.book) world ∙ ap (λ (c : ClientState). kept_of k.world c j.book) clients ∙ ap (λ (x : Content). kept_of k.world k.clients x) one.1
