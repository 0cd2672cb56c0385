-- The steps that open a store and make a hub from it, each with its acts on a disk.
use Rattle.std.specs.Prelude.{◌≡◌, ◌≢◌, ◌⊎◌, ℕ, List, [], ◌∷◌, Option, Some, None, Result, Ok, Err}
use Rattle.store_journal.specs.declared.current.Current.{Current}
use Rattle.store_journal.specs.Passage.{Passage, Unchanged, passage}
use Rattle.call_store.specs.declared.fault.StoreFault.{StoreFault}
use Rattle.call_store.specs.declared.fault.StoreFault.TheVariants.{Failed}
use Rattle.call_store.specs.declared.store.Store.{Store}
use Rattle.call_store.specs.Keeping.{BeginsTo, KeepGives}
use Rattle.call_store.specs.Opening.{Ending, IsNew, Started, OpenGives}
use Rattle.nfs_types.specs.Limits as profiles
use Rattle.who_book.specs.Content.{Content}
use Rattle.compound_run.specs.State.{State as ServerState}
use Rattle.nfs_hub.specs.declared.hub.Hub.{Hub}
use Rattle.nfs_hub.specs.Answer.{Served, started, with_lasting_sessions, with_log}
use Rattle.nfs_hub.specs.Machine.{State, BeginLog, Reload, IsHistory}
use Rattle.nfs_hub.specs.Hub.{IsHub, IsHistoryOf}
use Rattle.kept_server.specs.declared.opening.Kept.{Kept}
use Rattle.kept_server.specs.declared.serving.KeptEnd.{KeptEnd}
use Rattle.kept_server.specs.declared.serving.KeptEnd.TheVariants.{Ended, Unopened, Unready, Memory}
use Rattle.kept_server.specs.declared.serving.KeptEnd.TheVariants.{Exhausted, OtherProfile}

-- the log of a machine begins anew
abbrev pub begun : State → State
begun s = record s { served = with_log s.served }

-- **A new store is begun.** Its server has only a root, and the limits of this start's profile.
abbrev pub BeginsAnew : {A D : Type 0} → Passage D → Current → profiles.Limits → Content
    → Result (Kept A) KeptEnd → Type 0
BeginsAnew p current profile book (Ok kept) =
    IsHistoryOf (with_lasting_sessions profile book) (BeginLog ∷ []) kept.hub
    × BeginsTo p current (with_lasting_sessions profile book).state (Ok kept.store)
BeginsAnew p current profile book (Err (Ended how)) = ⊥
BeginsAnew p current profile book (Err (Unopened fault)) =
    BeginsTo p current (with_lasting_sessions profile book).state (Err fault)
BeginsAnew p current profile book (Err Unready) = ⊥
BeginsAnew p current profile book (Err Memory) = Unchanged p
BeginsAnew p current profile book (Err Exhausted) = ⊥
BeginsAnew p current profile book (Err OtherProfile) = ⊥

-- what a machine has logged; it isn't empty
pub record HasLogged (s : State) (log : List ℕ) : Type 0 where
  pub log_is : s.served.log ≡ Some log
  pub some : log ≢ []

-- **What the hub has logged is kept**, and its log begins anew.
abbrev pub KeepsLogged : {A D : Type 0} → Passage D → Kept A → Result (Unit {0}) KeptEnd → Kept A → Type 0
KeepsLogged p old (Ok done) new =
    (s : State) → IsHub old.hub s
    → (log : List ℕ) × HasLogged s log × KeepGives p old.store log s.served.state (Ok tt) new.store
    × IsHub new.hub (begun s)
KeepsLogged p old (Err (Ended how)) new = ⊥
KeepsLogged p old (Err (Unopened fault)) new =
    (s : State) → IsHub old.hub s
    → (log : List ℕ) × HasLogged s log × KeepGives p old.store log s.served.state (Err fault) new.store
KeepsLogged p old (Err Unready) new = ⊥
KeepsLogged p old (Err Memory) new = Unchanged p
KeepsLogged p old (Err Exhausted) new = ⊥
KeepsLogged p old (Err OtherProfile) new = ⊥

-- the kept book is that of this start
pub record HasBook {A D : Type 0} (p : Passage D) (store : Store) (q : ServerState) (book : Content) (kept : Kept A)
    : Type 0 where
  pub extends : IsHistoryOf (started q) (BeginLog ∷ []) kept.hub
  pub book_is : (started q).state.settings.book ≡ book
  pub store_is : kept.store ≡ store
  pub stays : Unchanged p

-- another book was kept: that of this start is loaded, and the load is logged
pub record LoadsBook (q : ServerState) (book : Content) : Type 0 where
  pub s : State
  pub extends : IsHistory (started q) (Reload book ∷ BeginLog ∷ []) s
  pub log : List ℕ
  pub logged : HasLogged s log

-- the store keeps what was logged then
pub record KeepsBook {A D : Type 0} (p : Passage D) (store : Store) (q : ServerState) (book : Content) (kept : Kept A)
    : Type 0 where
  pub loads : LoadsBook q book
  pub gives : KeepGives p store loads.log loads.s.served.state (Ok tt) kept.store
  pub is : IsHub kept.hub (begun loads.s)

-- **A hub is resumed from what was kept.** The book of this start is kept too.
abbrev pub GoesOnFrom : {A D : Type 0} → Passage D → Store → ServerState → Content → Result (Kept A) KeptEnd → Type 0
GoesOnFrom p store q book (Ok kept) = HasBook p store q book kept ⊎ KeepsBook p store q book kept
GoesOnFrom p store q book (Err (Ended how)) = ⊥
GoesOnFrom p store q book (Err (Unopened fault)) =
    (loads : LoadsBook q book) × (store' : Store)
    × KeepGives p store loads.log loads.s.served.state (Err fault) store'
GoesOnFrom p store q book (Err Unready) = ⊥
GoesOnFrom p store q book (Err Memory) = Unchanged p
GoesOnFrom p store q book (Err Exhausted) = Unchanged p
GoesOnFrom p store q book (Err OtherProfile) = ⊥

-- The CURRENT of a new store is the one that was found. If none was found, it has no finished checkpoint.
abbrev pub IsCurrent : Option Current → Current → Type 0
IsCurrent None c = c.generation ≡ 0
IsCurrent (Some found) c = c ≡ found

-- A hub is resumed from what was kept, if the store is of this profile. Or it is of another one, and refused.
abbrev pub GoesOnIf : {A D : Type 0} → Passage D → Store → ServerState → profiles.Limits → Content
    → Result (Kept A) KeptEnd → Type 0
GoesOnIf p store q profile book result =
    ((q.realm.world.limits ≡ profile) × GoesOnFrom p store q book result)
    ⊎ ((q.realm.world.limits ≢ profile) × (result ≡ Err OtherProfile) × Unchanged p)

-- what is done after the store was opened
abbrev pub OpensThen : {A D : Type 0} → Passage D → Result Ending StoreFault → profiles.Limits → Content
    → Result (Kept A) KeptEnd → Type 0
OpensThen p (Ok (IsNew found)) profile book result =
    ((current : Current) × IsCurrent found current × BeginsAnew p current profile book result)
    ⊎ ((result ≡ Err (Unopened Failed)) × Unchanged p)
OpensThen p (Ok (Started store q)) profile book result = GoesOnIf p store q profile book result
OpensThen p (Err fault) profile book result = (result ≡ Err (Unopened fault)) × Unchanged p

-- **A store is opened**, and a hub is made from its content.
pub record OpensTo {A D : Type 0} (p : Passage D) (profile : profiles.Limits) (book : Content)
    (result : Result (Kept A) KeptEnd) : Type 0 where
  pub mid : D
  pub found : Result Ending StoreFault
  pub opens : OpenGives (passage p.adds p.old mid) found
  pub then : OpensThen (passage p.adds mid p.new) found profile book result
