-- Calls as their look-ups.
use Rattle.std.proofs.Common.{◌≡◌, ℕ, ◌-◌, Bool, true, false, cond, List, [], ◌∷◌, ◌++◌, length, take, refl, ap, sym, ◌∙◌, subst, Some, None, inl, inr, ◌⊎◌}
use Rattle.std.specs.Prelude.{Option, MatchOption}
use Rattle.std.specs.Option.{option_map_or}
use Rattle.std.specs.Map.{lookup}
use Rattle.lru.specs.LruCache.{promoted}
use Rattle.acl_list.specs.declared.answer.Summary.{Summary}
use Rattle.node_tree.specs.Judged.{Judged}
use Rattle.access_rows.specs.declared.demand.Demand.{Demand}
use Rattle.access_rows.specs.declared.demand.Demand.TheVariants.{Bits, Removal, ServerTime}
use Rattle.access_guard.specs.declared.memory.Key.{Key}
use Rattle.access_guard.specs.Asker.{Asker, member_of}
use Rattle.access_guard.specs.Keys.{is_key}
use Rattle.access_guard.specs.Lists.{Lists, sum_of}
use Rattle.access_guard.specs.Memory.{Memory, LooksUp, LooksUpAt, LooksUpFor, Decides, key_of, examined_more, used, learnt, grants_silently, walked}
use Rattle.access_guard.specs.History.{IsLookUp, AreLookUps, looks_at, looks_for}

pub looks_in_turn : (capacity : ℕ) (first second : List (Key × Summary)) (old between new : List (Key × Summary)) → AreLookUps capacity first old between → AreLookUps capacity second between new → AreLookUps capacity (first ++ second) old new
looks_in_turn capacity [] second old between new same more = subst (λ es. AreLookUps capacity second es new) same more
looks_in_turn capacity (look ∷ first) second old between new (middle, one, rest) more = (middle, one, looks_in_turn capacity first second middle between new rest more)

one_look : (j : Judged) (asker : Asker) (old new : Memory) → LooksUp j asker old new → IsLookUp old.capacity (key_of j asker, sum_of j (member_of asker)) old.remembered new.remembered × (new.capacity ≡ old.capacity)
one_look j asker old new h = go (lookup (is_key (key_of j asker)) old.remembered) h
  where
    go : (o : Option Summary) → MatchOption o ((new ≡ learnt (key_of j asker) (sum_of j (member_of asker)) (examined_more (length j.list) old)) ⊎ (new ≡ examined_more (length j.list) old)) (λ s. new ≡ used (key_of j asker) old)
        → MatchOption o ((new.remembered ≡ (key_of j asker, sum_of j (member_of asker)) ∷ take (old.capacity - 1) old.remembered) ⊎ (new.remembered ≡ old.remembered)) (λ s. new.remembered ≡ promoted (is_key (key_of j asker)) old.remembered) × (new.capacity ≡ old.capacity)
    go None (inl e) = (inl (ap (λ (m : Memory). m.remembered) e), ap (λ (m : Memory). m.capacity) e)
    go None (inr e) = (inr (ap (λ (m : Memory). m.remembered) e), ap (λ (m : Memory). m.capacity) e)
    go (Some s) e = (ap (λ (m : Memory). m.remembered) e, ap (λ (m : Memory). m.capacity) e)

looks-at : (asker : Asker) (o : Option Judged) (old new : Memory) → MatchOption o (new ≡ old) (λ j. LooksUp j asker old new)
    → AreLookUps old.capacity (option_map_or (λ j. (key_of j asker, sum_of j (member_of asker)) ∷ []) o []) old.remembered new.remembered × (new.capacity ≡ old.capacity)
looks-at asker None old new h = (ap (λ (m : Memory). m.remembered) h, ap (λ (m : Memory). m.capacity) h)
looks-at asker (Some j) old new h = let one = one_look j asker old new h in ((new.remembered, one.0, refl), one.1)

looks-for : (lists : Lists) (asker : Asker) (demand : Demand) (old new : Memory) → LooksUpFor lists asker demand old new
    → AreLookUps old.capacity (looks_for lists asker demand) old.remembered new.remembered × (new.capacity ≡ old.capacity)
looks-for lists asker (Bits object mask) old new h = looks-at asker (lists object) old new h
looks-for lists asker (ServerTime object) old new h = looks-at asker (lists object) old new h
looks-for lists asker (Removal parent target) old new (between, first, second) =
    let one = looks-at asker (lists target) old between first in
    let two = looks-at asker (lists parent) between new second in
    (looks_in_turn old.capacity _ _ old.remembered between.remembered new.remembered one.0 (subst (λ n. AreLookUps n (looks_at lists asker parent) between.remembered new.remembered) one.1 two.0), two.1 ∙ one.1)

-- a walk leaves the remembered summaries unchanged
pub walk-leaves : (lists : Lists) (demand : Demand) (silent : Bool) (m : Memory) → ((cond silent m (walked lists demand m)).remembered ≡ m.remembered) × ((cond silent m (walked lists demand m)).capacity ≡ m.capacity)
walk-leaves lists demand true m = (refl, refl)
walk-leaves lists (Bits object mask) false m = (refl, refl)
walk-leaves lists (Removal parent target) false m = (refl, refl)
walk-leaves lists (ServerTime object) false m = (refl, refl)

pub decision-looks : (lists : Lists) (asker : Asker) (demand : Demand) (old new : Memory) → Decides lists asker demand old new
    → AreLookUps old.capacity (looks_for lists asker demand) old.remembered new.remembered × (new.capacity ≡ old.capacity)
decision-looks lists asker demand old new (between, looks, walk) =
    let leaves = walk-leaves lists demand (grants_silently lists (member_of asker) demand) between in
    let made = looks-for lists asker demand old between looks in
    (subst (λ es. AreLookUps old.capacity (looks_for lists asker demand) old.remembered es) (sym (ap (λ (m : Memory). m.remembered) walk ∙ leaves.0)) made.0, ap (λ (m : Memory). m.capacity) walk ∙ leaves.1 ∙ made.1)

-- ---- how many summaries may be remembered

pub look_up_keeps : (lists : Lists) (asker : Asker) (object : ℕ) (old new : Memory) → LooksUpAt lists asker object old new → new.capacity ≡ old.capacity
look_up_keeps lists asker object old new looks = (looks-at asker (lists object) old new looks).1

pub decision_keeps : (lists : Lists) (asker : Asker) (demand : Demand) (old new : Memory) → Decides lists asker demand old new → new.capacity ≡ old.capacity
decision_keeps lists asker demand old new decides = (decision-looks lists asker demand old new decides).1
