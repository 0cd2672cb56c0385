-- A hub that was made from what was kept: its server, and its log.
use Rattle.std.proofs.Common.{◌≡◌, ◌∙◌, ℕ, Bool, true, false, List, [], ◌∷◌, Option, Some, None, Ok, Err, inl, inr, refl, sym, ap, subst}
use Rattle.std.specs.Prelude.{◌⊎◌, ◌==◌, ◌≢◌, length, Result}
use Rattle.store_journal.specs.declared.current.Current.{Current}
use Rattle.store_journal.specs.Passage.{Passage, Unchanged}
use Rattle.call_store.specs.declared.fault.StoreFault.{StoreFault}
use Rattle.call_store.specs.declared.store.Store.{Store}
use Rattle.call_store.specs.Keeping.{BeginsTo, KeepGives}
use Rattle.who_book.specs.Content.{Content}
use Rattle.compound_run.specs.State.{State as ServerState}
use Rattle.nfs_hub.specs.declared.hub.Hub.{Hub}
use Rattle.nfs_hub.specs.Answer.{Served, started, with_lasting_sessions, with_log}
use Rattle.nfs_hub.specs.Machine.{State, BeginLog, Reload, IsHistory, opening}
use Rattle.nfs_hub.specs.Hub.{IsHub, Goes, IsHistoryOf}
use Rattle.kept_server.specs.declared.opening.Kept.{Kept}
use Rattle.kept_server.specs.declared.serving.KeptEnd.{KeptEnd}
use Rattle.kept_server.specs.declared.serving.KeptEnd.TheVariants.{Ended, Unopened, Unready, Memory, Exhausted, OtherProfile}
use Rattle.kept_server.specs.Steps.{begun, HasLogged, KeepsLogged, LoadsBook, GoesOnFrom}

-- a hub whose log was just begun
pub is_begun : {A : Type 0} (first : Served) (hub : Hub A) → IsHistoryOf first (BeginLog ∷ []) hub → IsHub hub (begun (opening first))
is_begun first hub l = subst (IsHub hub) (l.extends.2 ∙ ap begun l.extends.1) l.is

pub begins_with : {A D : Type 0} (p : Passage D) (current : Current) (first : Served) (hub : Hub A) (server : ServerState) (result : Result Store StoreFault) → IsHistoryOf first (BeginLog ∷ []) hub → ((s : State) → IsHub hub s → s.served.state ≡ server) → BeginsTo p current server result → BeginsTo p current first.state result
begins_with p current first hub server result l serves gives = subst (λ (s : ServerState). BeginsTo p current s result) (sym (serves (begun (opening first)) (is_begun first hub l))) gives

-- ---- what was logged is kept

not_empty : (log : List ℕ) → false ≡ (length log == 0) → log ≢ []
not_empty log e same = never (e ∙ ap (λ (l : List ℕ). length l == 0) same)
  where
    never : false ≡ true → ⊥
    never x = cc

has_logged : {A : Type 0} (hub : Hub A) (log : List ℕ) → ((s : State) → IsHub hub s → Some log ≡ s.served.log) → false ≡ (length log == 0) → (s : State) → IsHub hub s → HasLogged s log
has_logged hub log logged some s is = record { log_is = sym (logged s is); some = not_empty log some }

pub keeps_ok : {A D : Type 0} (p : Passage D) (kept kept' : Kept A) (log : List ℕ) (server : ServerState) → ((s : State) → IsHub kept.hub s → Some log ≡ s.served.log) → false ≡ (length log == 0) → ((s : State) → IsHub kept.hub s → s.served.state ≡ server)
    → KeepGives p kept.store log server (Ok tt) kept'.store → Goes BeginLog kept.hub kept'.hub → KeepsLogged p kept (Ok tt) kept'
keeps_ok p kept kept' log server logged some serves gives goes = λ s is.
    let g = goes s is in (
      log,
      has_logged kept.hub log logged some s is,
      subst (λ (x : ServerState). KeepGives p kept.store log x (Ok tt) kept'.store) (sym (serves s is)) gives,
      subst (IsHub kept'.hub) g.1 g.2,
    )

pub keeps_err : {A D : Type 0} (p : Passage D) (kept kept' : Kept A) (log : List ℕ) (server : ServerState) (fault : StoreFault) → ((s : State) → IsHub kept.hub s → Some log ≡ s.served.log) → false ≡ (length log == 0) → ((s : State) → IsHub kept.hub s → s.served.state ≡ server)
    → KeepGives p kept.store log server (Err fault) kept'.store → KeepsLogged p kept (Err (Unopened fault)) kept'
keeps_err p kept kept' log server fault logged some serves gives = λ s is. (
  log,
  has_logged kept.hub log logged some s is,
  subst (λ (x : ServerState). KeepGives p kept.store log x (Err fault) kept'.store) (sym (serves s is)) gives,
)

-- ---- the book of a start

module _ {A D : Type 0} (p : Passage D) (q : ServerState) (book : Content) (hub : Hub A) (kept kept' : Kept A) (history : IsHistoryOf (started q) (BeginLog ∷ []) hub) (goes : Goes (Reload book) hub kept.hub) where
  abbrev went : (t : State) × IsHistory (started q) (Reload book ∷ BeginLog ∷ []) t × IsHub kept.hub t
  went =
      let g = goes history.state history.is in (g.0, (history.state, history.extends, g.1), g.2)

  abbrev loads : (log : List ℕ) → HasLogged went.0 log → LoadsBook q book
  loads log has = record { s = went.0; extends = went.1; log = log; logged = has }

  pub loads_ok : KeepsLogged p kept (Ok tt) kept' → GoesOnFrom p kept.store q book (Ok kept')
  loads_ok keeps = let k = keeps went.0 went.2 in inr (record { loads = loads k.0 k.1; gives = k.2; is = k.3 })

  pub loads_err : (end : KeptEnd) → KeepsLogged p kept (Err end) kept' → GoesOnFrom {A = A} p kept.store q book (Err end)
  loads_err (Ended how) keeps = keeps
  loads_err (Unopened fault) keeps = let k = keeps went.0 went.2 in (loads k.0 k.1, kept'.store, k.2)
  loads_err Unready keeps = keeps
  loads_err Memory keeps = keeps
  loads_err Exhausted keeps = absurd keeps
  loads_err OtherProfile keeps = absurd keeps

pub unloaded : {D : Type 0} (A : Type 0) (p : Passage D) (store : Store) (q : ServerState) (book : Content) (end : KeptEnd) → (end ≡ Exhausted) ⊎ (end ≡ Memory) → Unchanged p → GoesOnFrom {A = A} p store q book (Err end)
unloaded A p store q book end (inl is) same = subst (λ (e : KeptEnd). GoesOnFrom {A = A} p store q book (Err e)) (sym is) same
unloaded A p store q book end (inr is) same = subst (λ (e : KeptEnd). GoesOnFrom {A = A} p store q book (Err e)) (sym is) same

pub has_book : {A : Type 0} (first : Served) (hub : Hub A) (server : ServerState) (found book : Content) → IsHistoryOf first (BeginLog ∷ []) hub → ((s : State) → IsHub hub s → s.served.state ≡ server) → found ≡ server.settings.book → found ≡ book → first.state.settings.book ≡ book
has_book first hub server found book l serves is same = ap (λ (s : ServerState). s.settings.book) (serves (begun (opening first)) (is_begun first hub l)) ∙ (sym is ∙ same)
