-- The summaries that are remembered after any sequence of look-ups.
use Rattle.std.specs.Prelude.{◌≡◌, ◌⊎◌, ℕ, ◌-◌, List, [], ◌∷◌, ◌++◌, take, MatchOption}
use Rattle.std.specs.Option.{option_map_or}
use Rattle.std.specs.Map.{lookup}
use Rattle.lru.specs.LruCache.{promoted}
use Rattle.acl_list.specs.declared.answer.Summary.{Summary}
use Rattle.access_rows.specs.declared.demand.Demand.{Demand}
use Rattle.access_rows.specs.declared.demand.Demand.TheVariants.{Bits, Removal, ServerTime}
use Rattle.access_guard.specs.declared.memory.Key.{Key}
use Rattle.access_guard.specs.Asker.{Asker, member_of}
use Rattle.access_guard.specs.Keys.{is_key}
use Rattle.access_guard.specs.Lists.{Lists, sum_of}
use Rattle.access_guard.specs.Memory.{key_of}

-- A look-up that finds its summary moves it to the front. Otherwise the new summary is put in front, and the last one
-- is evicted if the list was full. If an allocation for it fails, the list is unchanged.
abbrev pub IsLookUp : ℕ → Key × Summary → List (Key × Summary) → List (Key × Summary) → Type 0
IsLookUp capacity (key, sum) old new =
    MatchOption (lookup (is_key key) old)
    ((new ≡ (key, sum) ∷ take (capacity - 1) old) ⊎ (new ≡ old))
    (λ there. new ≡ promoted (is_key key) old)

-- look-ups one after another
abbrev pub AreLookUps : ℕ → List (Key × Summary) → List (Key × Summary) → List (Key × Summary) → Type 0
AreLookUps capacity [] old new = new ≡ old
AreLookUps capacity (look ∷ more) old new =
    (between : List (Key × Summary)) × IsLookUp capacity look old between × AreLookUps capacity more between new

-- the look-up of an object, if it exists
abbrev pub looks_at : Lists → Asker → ℕ → List (Key × Summary)
looks_at lists asker object = option_map_or (λ j. (key_of j asker, sum_of j (member_of asker)) ∷ []) (lists object) []

-- the look-ups of a demand: of a removal the target's, then the parent's
abbrev pub looks_for : Lists → Asker → Demand → List (Key × Summary)
looks_for lists asker (Bits object mask) = looks_at lists asker object
looks_for lists asker (Removal parent target) = looks_at lists asker target ++ looks_at lists asker parent
looks_for lists asker (ServerTime object) = looks_at lists asker object
