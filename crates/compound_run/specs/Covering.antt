-- A state after a restart covers the state of the server before it: both are the same, except that slots may lag (RFC
-- 8881, section 2.10.6.5).
use Rattle.std.specs.Prelude.{◌≡◌, ◌≤◌, ℕ, List}
use Rattle.session_slots.specs.Covering.{SessionsCover}
use Rattle.session_slots.specs.Registry.{Session}
use Rattle.compound_run.specs.Realm.{Realm}
use Rattle.compound_run.specs.State.{State}

-- the realm with other sessions
abbrev pub with_sessions : List (ℕ × Session) → Realm → Realm
with_sessions sessions r = record r { registry = record r.registry { sessions = sessions } }

-- A realm covers another: it differs only in its sessions, whose slots may lag.
pub record RealmCovers (q r : Realm) : Type 0 where
  pub others : q ≡ with_sessions q.registry.sessions r
  pub sessions : SessionsCover q.registry.sessions r.registry.sessions

-- A state covers another one. The trail isn't stored, and the epoch of the book begins anew.
pub record Covers (q s : State) : Type 0 where
  pub realm : RealmCovers q.realm s.realm
  pub book : q.settings.book ≡ s.settings.book
  pub epoch : q.settings.epoch ≤ s.settings.epoch
