-- Sessions after a restart cover those of the server before it. Each is the same, except that slots may lag (RFC
-- 8881, section 2.10.6.5). A slot lags if it caches an earlier call than the last one that it accepted. The calls
-- after the earlier one changed nothing and weren't logged.
use Rattle.std.specs.Prelude.{◌≡◌, ◌⊎◌, ◌<◌, ℕ, ◌/◌, ◌^◌, true, false, List, [], ◌∷◌, Option, map}
use Rattle.session_slots.specs.Counting.{last_number}
use Rattle.session_slots.specs.Limits.{MOST_AHEAD}
use Rattle.session_slots.specs.Registry.{Session, Registry, with_session, with_place}
use Rattle.session_slots.specs.Slots.{Cached, Place, number_of}

-- The slot has accepted a later call than the earlier one, and doesn't lag. Both sequence IDs are in the same span of
-- 2^20.
pub record IsLater (p : Place) (earlier : Option Cached) : Type 0 where
  pub lags : p.lags ≡ false
  pub later : last_number number_of earlier < last_number number_of p.kept
  pub near : last_number number_of earlier / MOST_AHEAD ≡ last_number number_of p.kept / MOST_AHEAD

pub record PlaceCovers (q p : Place) : Type 0 where
  pub arguments : q.most_arguments ≡ p.most_arguments
  pub results : q.most_results ≡ p.most_results
  -- sequence IDs have 32 bits
  pub number : last_number number_of p.kept < 2 ^ 32
  pub kept : (q.kept ≡ p.kept) ⊎ IsLater p q.kept

abbrev pub PlacesCover : List Place → List Place → Type 0
PlacesCover [] [] = Unit {0}
PlacesCover [] (p ∷ places) = ⊥
PlacesCover (q ∷ others) [] = ⊥
PlacesCover (q ∷ others) (p ∷ places) = PlaceCovers q p × PlacesCover others places

pub record SessionCovers (q s : Session) : Type 0 where
  pub client : q.client ≡ s.client
  pub granted : q.granted ≡ s.granted
  pub slots : PlacesCover q.slots s.slots

-- sessions by rising number
abbrev pub SessionsCover : List (ℕ × Session) → List (ℕ × Session) → Type 0
SessionsCover [] [] = Unit {0}
SessionsCover [] (e ∷ sessions) = ⊥
SessionsCover (d ∷ others) [] = ⊥
SessionsCover (d ∷ others) (e ∷ sessions) = (d.0 ≡ e.0) × SessionCovers d.1 e.1 × SessionsCover others sessions

-- ---- the slot of a call that is replayed

abbrev pub lagging : Place → Place
lagging p = record p { lags = true }

-- a slot of a session lags
abbrev pub lagging_at : ℕ → ℕ → Registry → Registry
lagging_at session slot r = with_session session (with_place slot lagging) r

-- ---- the slots of a server that starts

-- all slots of a session lag
abbrev pub session_lagging : Session → Session
session_lagging s = record s { slots = map lagging s.slots }

-- all slots of all sessions lag
abbrev pub all_lagging : Registry → Registry
all_lagging r = record r { sessions = map (λ e. (e.0, session_lagging e.1)) r.sessions }
