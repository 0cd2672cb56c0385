-- A run resumes from what the earlier runs have left.
use Rattle.std.proofs.Common.{◌≡◌, ◌∙◌, ◌≢◌, ℕ, Bool, true, false, List, [], ◌∷◌, ◌++◌, Option, Some, None, Ok, Err, inl, inr, refl, sym, ap, subst, append_assoc, arith}
use Rattle.std.specs.Prelude.{◌⊎◌, Result, length}
use Rattle.std.specs.Option.{option_map_or}
use Rattle.store_journal.specs.declared.current.Current.{Current}
use Rattle.store_journal.specs.declared.fault.JournalFault.{JournalFault}
use Rattle.store_journal.specs.declared.fault.JournalFault.TheVariants as journal
use Rattle.store_journal.specs.Disk.{Act as DiskAct}
use Rattle.store_journal.specs.Journaled.{Log, IsIn}
use Rattle.checkpoint.specs.declared.fault.WriteFault.{WriteFault}
use Rattle.checkpoint.specs.declared.fault.WriteFault.TheVariants as writing
use Rattle.log_entries.specs.Entries.{Loaded}
use Rattle.store_journal.specs.Passage.{Adding, Passage, passage}
use Rattle.store_journal.specs.Serving.{of_acts}
use Rattle.store_journal.specs.Starting.{IsHonest}
use Rattle.call_store.specs.declared.fault.StoreFault.{StoreFault}
use Rattle.call_store.specs.declared.fault.StoreFault.TheVariants.{Failed, Version, Corrupt, Memory as NoMemory, Full, Unfit}
use Rattle.call_store.specs.declared.store.Store.{Store}
use Rattle.call_store.specs.Crash.{LogsRepresent, RepresentAfter}
use Rattle.call_store.specs.Keeping.{BeginsTo, KeepGives, KeepsBy, fault_of_write}
use Rattle.call_store.specs.Lasting.{IsLasting}
use Rattle.call_store.specs.Opening.{Ending, IsNew, Started, OpenGives, IsUnfinished, fault_of_journal}
use Rattle.call_store.specs.Serving.{Serving, AfterBegin, AfterCall}
use Rattle.call_store.specs.Sizes.{takes}
use Rattle.call_store.specs.Starting.{AfterOpen, Collision, GoesOn, StaysNew}
use Rattle.nfs_types.specs.Limits as profiles
use Rattle.who_book.specs.Content.{Content}
use Rattle.compound_run.specs.Covering.{Covers}
use Rattle.compound_run.specs.Realm.{Realm}
use Rattle.compound_run.specs.State.{State as ServerState, with_book}
use Rattle.access_guard.specs.Epochs.{next_epoch}
use Rattle.nfs_hub.specs.declared.hub.Hub.{Hub}
use Rattle.nfs_hub.specs.Answer.{Served, Reloads, logged, started, with_lasting_sessions}
use Rattle.nfs_hub.specs.Machine.{State, Event, BeginLog, Reload, IsHistory, Step, opening}
use Rattle.nfs_hub.specs.Hub.{IsHub, IsHistoryOf}
use Rattle.hub_laws.specs.Kept.{Logs}
use Rattle.hub_laws.proofs.Logged.{step_logs}
use Rattle.call_store.proofs.Lasting.{start_lasts}
use Rattle.nfs_streams.specs.declared.serving.AllEnd.{AllEnd}
use Rattle.nfs_streams.specs.declared.serving.Limits.{Limits}
use Rattle.nfs_streams.specs.Acts.{Act, Adds, OnDisk}
use Rattle.nfs_streams.specs.All.{ServesAll}
use Rattle.nfs_streams.specs.Keeping.{ServesOpen}
use Rattle.nfs_streams.proofs.Prefixes.{Chain, Far}
use Rattle.nfs_streams.proofs.Lasting.{lasting_on}
use Rattle.kept_server.specs.declared.opening.Kept.{Kept}
use Rattle.kept_server.specs.declared.serving.KeptEnd.{KeptEnd}
use Rattle.kept_server.specs.declared.serving.KeptEnd.TheVariants.{Ended, Unopened, Unready, Memory, Exhausted, OtherProfile}
use Rattle.kept_server.specs.Beginning.{Before, BeginsWith, IsBegun, AlwaysRepresent, RepresentsMeanwhile}
use Rattle.kept_server.specs.Kept.{on_disk, IsLoading, IsOfOther, IsOpened, Serves, IsRefusal, EndsSo, Goes, ServesKept}
use Rattle.kept_server.specs.Steps.{begun, BeginsAnew, GoesOnFrom, HasBook, HasLogged, IsCurrent, KeepsBook, LoadsBook, OpensThen, OpensTo}
use Rattle.kept_server.proofs.Acts.{always_join, always_wider, chain_join, honest_join, map_left, through_more}
use Rattle.kept_server.proofs.Begun.{Begins, Keeps, begin_far, begins_frames, kept_far, keeps_so}
use Rattle.kept_server.proofs.Hubs.{is_begun}
use Rattle.kept_server.proofs.Starts.{Opens, opens_after}

-- ---- what is ready to serve

pub record Ready {A : Type 0} (b : Before) (profile : profiles.Limits) (book : Content) (acts : List DiskAct) (kept : Kept A) : Type 0 where
  pub first : Served
  pub begins : BeginsWith b profile book first
  pub events : List Event
  pub loading : IsLoading book events
  pub state : State
  pub extends : IsHistory first events state
  pub is : IsHub kept.hub state
  pub serving : Serving kept.store state.served.state (acts ++ b.history)
  pub log_is : state.served.log ≡ Some []
  pub sessions : state.served.in_sessions ≡ true
  pub lasting : IsLasting state.served.state
  pub profile_is : state.served.state.realm.world.limits ≡ profile
  pub book_is : state.served.state.settings.book ≡ book

abbrev pub Outcome : {A : Type 0} → Before → profiles.Limits → Content → List DiskAct → Result (Kept A) KeptEnd → Type 0
Outcome b profile book acts (Ok kept) = Ready b profile book acts kept
Outcome b profile book acts (Err (Ended how)) = ⊥
Outcome b profile book acts (Err (Unopened fault)) = IsRefusal fault
Outcome b profile book acts (Err Unready) = ⊥
Outcome b profile book acts (Err Memory) = Unit {0}
Outcome b profile book acts (Err Exhausted) = Unit {0}
Outcome b profile book acts (Err OtherProfile) = IsOfOther b profile

pub record Opened {A D : Type 0} (adds : Adding D) (old new : D) (b : Before) (profile : profiles.Limits) (book : Content) (result : Result (Kept A) KeptEnd) : Type 0 where
  pub acts : List DiskAct
  pub chain : Chain adds acts old new
  pub then : IsHonest (acts ++ b.history) → (RepresentsMeanwhile b profile book acts × Outcome b profile book acts result) ⊎ Collision b.logs

-- a checkpoint of a new server covers it
new_lasts : (profile : profiles.Limits) (book : Content) → IsLasting (with_lasting_sessions profile book).state
new_lasts profile book = record { lasting = refl; epoch = omega arith }

-- the states from before are still represented
as_before : (b : Before) (profile : profiles.Limits) (book : Content) (acts : List DiskAct) → AlwaysRepresent b b.states acts → RepresentsMeanwhile b profile book acts
as_before b profile book acts always = record { states = b.states; each = λ t is. inl is; always = always }

honest_on : (later first history : List DiskAct) → IsHonest ((later ++ first) ++ history) → IsHonest (first ++ history)
honest_on later first history honest = honest_join later (first ++ history) (subst IsHonest (append_assoc later first history) honest)

-- ---- faults

fault_as : (fault other : StoreFault) → fault ≡ other → IsRefusal other → IsRefusal fault
fault_as fault other same refusal = subst IsRefusal (sym same) refusal

journal_refusal : (why : JournalFault) → IsRefusal (fault_of_journal why)
journal_refusal journal.TooLong = tt
journal_refusal journal.Memory = tt
journal_refusal journal.Full = tt
journal_refusal journal.NoCheckpoint = tt
journal_refusal journal.Failed = tt

written_refusal : (why : WriteFault) → IsRefusal (fault_of_write why)
written_refusal writing.Unfit = tt
written_refusal writing.Memory = tt
written_refusal (writing.Refused why) = journal_refusal why

write_refusal : (fault : StoreFault) (why : WriteFault) → fault ≡ fault_of_write why → IsRefusal fault
write_refusal fault why same = fault_as fault (fault_of_write why) same (written_refusal why)

keep_refusal : {D : Type 0} (p : Passage D) (failed fits : Bool) (store : Store) (log : List ℕ) (s : ServerState) (fault : StoreFault) (store' : Store) → KeepsBy failed fits p store log s (Err fault) store' → IsRefusal fault
keep_refusal p true fits store log s fault store' had = fault_as fault Failed (inner (Err fault) refl had.0) tt
  where
    inner : (x : Result (Unit {0}) StoreFault) → x ≡ Err fault → x ≡ Err Failed → fault ≡ Failed
    inner x e f = cc
keep_refusal p false fits store [] s fault store' idle = absurd (never (Err fault) refl idle.0)
  where
    never : (x : Result (Unit {0}) StoreFault) → x ≡ Err fault → x ≡ Ok tt → ⊥
    never x e f = cc
keep_refusal p false true store (x ∷ log) s fault store' r = fault_as fault (fault_of_journal r.why) r.fault_is (journal_refusal r.why)
keep_refusal p false false store (x ∷ log) s fault store' (j', stops, is) = write_refusal fault stops.why stops.fault_is

-- ---- a book that was loaded, and logged

log_same : (a c : List ℕ) → Some a ≡ Some c → c ≡ a
log_same a c e = cc

reloaded_in : (o : Option ℕ) (text : Option (List ℕ)) (book : Content) (old new : Served) (log : List ℕ) → new ≡ option_map_or (λ epoch. record old { state = with_book book old.state; log = logged (Loaded text) old.log }) o old → old.log ≡ Some [] → new.log ≡ Some log → log ≢ [] → new.state ≡ with_book book old.state
reloaded_in None text book old new log same none is some = absurd (some (log_same [] log (sym none ∙ (ap (λ (s : Served). s.log) (sym same) ∙ is))))
reloaded_in (Some epoch) text book old new log same none is some = ap (λ (s : Served). s.state) same

book_loaded : (book : Content) (old new : Served) (log : List ℕ) → Reloads book old new → new.log ≡ Some log → log ≢ [] → old.log ≡ Some [] → new.state ≡ with_book book old.state
book_loaded book old new log (inl refused) is some none = absurd (some (log_same [] log (sym none ∙ (ap (λ (s : Served). s.log) (sym refused.1) ∙ is))))
book_loaded book old new log (inr (text, is_text, fits, is_book, same)) is some none = reloaded_in (next_epoch old.state.settings.epoch) text book old new log same none is some

-- ---- the store wasn't opened

refusal_of : (b : Before) (fault : StoreFault) (acts : List DiskAct) → AfterOpen b.logs b.states (Err fault) acts → IsRefusal fault
refusal_of b Failed acts after = tt
refusal_of b Version acts after = after
refusal_of b (Corrupt corruption) acts after = after
refusal_of b NoMemory acts after = tt
refusal_of b Full acts after = tt
refusal_of b Unfit acts after = tt

module _ {D : Type 0} (A : Type 0) (adds : Adding D) (old mid new : D) (b : Before) (profile : profiles.Limits) (book : Content) where
  not_opened : (fault : StoreFault) (result : Result (Kept A) KeptEnd) → result ≡ Err (Unopened fault) → new ≡ mid → Opens adds old mid b (Err fault) → Opened {A = A} adds old new b profile book result
  not_opened fault result is same o =
      subst (λ (r : Result (Kept A) KeptEnd). Opened {A = A} adds old new b profile book r) (sym is)
      (record {
        acts = o.acts;
        chain = subst (λ (d : D). Chain adds o.acts old d) (sym same) o.chain;
        then = λ honest. map_left (λ st. (as_before b profile book o.acts st.0, refusal_of b fault (o.acts ++ b.history) st.1)) (o.then honest);
      })

  -- ---- a new store

  no_identity : (found : Option Current) (result : Result (Kept A) KeptEnd) → result ≡ Err (Unopened Failed) → new ≡ mid → Opens adds old mid b (Ok (IsNew found)) → Opened {A = A} adds old new b profile book result
  no_identity found result is same o =
      subst (λ (r : Result (Kept A) KeptEnd). Opened {A = A} adds old new b profile book r) (sym is)
      (record {
        acts = o.acts;
        chain = subst (λ (d : D). Chain adds o.acts old d) (sym same) o.chain;
        then = λ honest. map_left (λ st. (as_before b profile book o.acts st.0, tt)) (o.then honest);
      })

  module _ (found : Option Current) (current : Current) (is_current : IsCurrent found current) (o : Opens adds old mid b (Ok (IsNew found))) where
    abbrev fresh : Served
    fresh = with_lasting_sessions profile book

    zero_of : (found : Option Current) → IsCurrent found current → IsUnfinished found → current.generation ≡ 0
    zero_of None is unfinished = is
    zero_of (Some c) is unfinished = ap (λ (x : Current). x.generation) is ∙ unfinished

    fresh_more : (s : ServerState) → IsIn s b.states → IsIn s (fresh.state ∷ b.states)
    fresh_more s is = inr is

    fresh_each : IsIn None b.logs → (t : ServerState) → IsIn t (fresh.state ∷ b.states) → IsIn t b.states ⊎ IsBegun b profile book t
    fresh_each none t (inl this) = inr (record { first = fresh; begins = inr (none, refl); is = inl this })
    fresh_each none t (inr later) = inl later

    -- the acts that begin it
    abbrev Began : Result Store StoreFault → Type 0
    Began result = Far adds mid new (Begins current fresh.state result)

    anew : (result : Result Store StoreFault) (f : Began result) → IsHonest ((f.acts ++ o.acts) ++ b.history)
        → (RepresentsMeanwhile b profile book (f.acts ++ o.acts) × (IsIn None b.logs × ((logs : List (Option Log)) × AfterBegin logs b.states fresh.state result (f.acts ++ (o.acts ++ b.history))))) ⊎ Collision b.logs
    anew result f honest =
        map_left (λ st.
        let n = st.1 in
        let wide : List ServerState = fresh.state ∷ b.states in
        let two = begins_frames current b.states fresh.state n.logs (o.acts ++ b.history) result f.acts n.represents n.none (zero_of found is_current n.unfinished) (new_lasts profile book) f.does in (
          record {
            states = fresh.state ∷ b.states;
            each = fresh_each n.none_before;
            always = always_join b wide f.acts o.acts (through_more n.logs b.logs wide wide f.acts (o.acts ++ b.history) (λ none. n.none_before) (λ t is. is) two.0) (always_wider b b.states wide o.acts fresh_more st.0);
          },
          (n.none_before, (n.logs, two.1)),
        )) (o.then (honest_on f.acts o.acts b.history honest))

    abbrev joined : (result : Result Store StoreFault) (f : Began result) → Chain adds (f.acts ++ o.acts) old new
    joined result f = chain_join adds old mid new f.acts o.acts o.chain f.chain

    begun_anew : (result : Result (Kept A) KeptEnd) → BeginsAnew (passage adds mid new) current profile book result → Opened {A = A} adds old new b profile book result
    begun_anew (Ok kept) (extends, gives) =
        let f = begin_far (passage adds mid new) current fresh.state (Ok kept.store) gives in
        record {
          acts = f.acts ++ o.acts;
          chain = joined (Ok kept.store) f;
          then = λ honest. map_left (λ st. (
            st.0,
            record {
              first = fresh;
              begins = inr (st.1.0, refl);
              events = BeginLog ∷ [];
              loading = inl refl;
              state = begun (opening fresh);
              extends = (opening fresh, refl, refl);
              is = is_begun fresh kept.hub extends;
              serving = subst (Serving kept.store fresh.state) (sym (append_assoc f.acts o.acts b.history)) st.1.1.1;
              log_is = refl;
              sessions = refl;
              lasting = new_lasts profile book;
              profile_is = refl;
              book_is = refl;
            },
          )) (anew (Ok kept.store) f honest);
        }
    begun_anew (Err (Ended how)) none = absurd none
    begun_anew (Err (Unopened fault)) gives =
        let f = begin_far (passage adds mid new) current fresh.state (Err fault) gives in
        record {
          acts = f.acts ++ o.acts;
          chain = joined (Err fault) f;
          then = λ honest. map_left (λ st. (st.0, write_refusal fault gives.1.why gives.1.fault_is)) (anew (Err fault) f honest);
        }
    begun_anew (Err Unready) none = absurd none
    begun_anew (Err Memory) same = record {
      acts = o.acts;
      chain = subst (λ (d : D). Chain adds o.acts old d) (sym same) o.chain;
      then = λ honest. map_left (λ st. (as_before b profile book o.acts st.0, tt)) (o.then honest);
    }
    begun_anew (Err Exhausted) none = absurd none
    begun_anew (Err OtherProfile) none = absurd none

  -- ---- what was kept

  module _ (store : Store) (q : ServerState) (same : q.realm.world.limits ≡ profile) (lasts : IsLasting (started q).state) (o : Opens adds old mid b (Ok (Started store q))) where
    abbrev first : Served
    first = started q

    begins_on : (acts : List DiskAct) → GoesOn b.states store q acts → BeginsWith b profile book first
    begins_on acts on = inl (on.state, on.of_these, on.covers)

    -- nothing more was done
    stays_refused : (end : KeptEnd) → Outcome {A = A} b profile book o.acts (Err end) → new ≡ mid → Opened {A = A} adds old new b profile book (Err end)
    stays_refused end outcome stays = record {
      acts = o.acts;
      chain = subst (λ (d : D). Chain adds o.acts old d) (sym stays) o.chain;
      then = λ honest. map_left (λ st. (as_before b profile book o.acts st.0, outcome)) (o.then honest);
    }

    had_book : (kept : Kept A) → HasBook (passage adds mid new) store q book kept → Opened {A = A} adds old new b profile book (Ok kept)
    had_book kept has = record {
      acts = o.acts;
      chain = subst (λ (d : D). Chain adds o.acts old d) (sym has.stays) o.chain;
      then = λ honest. map_left (λ st. (
        as_before b profile book o.acts st.0,
        record {
          first = first;
          begins = begins_on (o.acts ++ b.history) st.1;
          events = BeginLog ∷ [];
          loading = inl refl;
          state = begun (opening first);
          extends = (opening first, refl, refl);
          is = is_begun first kept.hub has.extends;
          serving = subst (λ (x : Store). Serving x first.state (o.acts ++ b.history)) (sym has.store_is) st.1.serving;
          log_is = refl;
          sessions = refl;
          lasting = lasts;
          profile_is = same;
          book_is = has.book_is;
        },
      )) (o.then honest);
    }

    module _ (loads : LoadsBook q book) where
      abbrev s : State
      s = loads.s

      abbrev was : State
      was = begun (opening first)

      loads_from : Step (Reload book) was s
      loads_from = subst (λ (x : State). Step (Reload book) x s) (loads.extends.1.2 ∙ ap begun loads.extends.1.1) loads.extends.2

      was_logged : (s.served.in_sessions ≡ true) × Logs [] was.served s.served
      was_logged = step_logs (Reload book) was s [] tt refl refl loads_from

      lasts_on : IsLasting s.served.state
      lasts_on = lasting_on (Reload book) was s tt loads_from lasts

      state_is : s.served.state ≡ with_book book first.state
      state_is = book_loaded book was.served s.served loads.log loads_from.0 loads.logged.log_is loads.logged.some refl

      abbrev list : List ServerState
      list = first.state ∷ s.served.state ∷ b.states

      later_in : (x : ServerState) → IsIn x b.states → IsIn x list
      later_in x is = inr (inr is)

      two_in : (x : ServerState) → IsIn x (first.state ∷ s.served.state ∷ []) → IsIn x list
      two_in x (inl this) = inl this
      two_in x (inr (inl this)) = inr (inl this)
      two_in x (inr (inr never)) = absurd never

      list_each : (acts : List DiskAct) → GoesOn b.states store q acts → (t : ServerState) → IsIn t list → IsIn t b.states ⊎ IsBegun b profile book t
      list_each acts on t (inl this) = inr (record { first = first; begins = begins_on acts on; is = inl this })
      list_each acts on t (inr (inl this)) = inr (record { first = first; begins = begins_on acts on; is = inr (this ∙ state_is) })
      list_each acts on t (inr (inr later)) = inl later

      keeps : (result : Result (Unit {0}) StoreFault) (store' : Store) (f : Far adds mid new (Keeps store s.served.state loads.log result store')) → IsHonest ((f.acts ++ o.acts) ++ b.history)
          → (RepresentsMeanwhile b profile book (f.acts ++ o.acts) × (GoesOn b.states store q (o.acts ++ b.history) × AfterCall first.state s.served.state result store' (f.acts ++ (o.acts ++ b.history)))) ⊎ Collision b.logs
      keeps result store' f honest =
          map_left (λ st.
          let two = keeps_so store store' was.served s.served loads.log (o.acts ++ b.history) result f.acts st.1.serving was_logged.1 loads.logged.log_is lasts_on f.does in (
            record {
              states = list;
              each = list_each (o.acts ++ b.history) st.1;
              always = always_join b list f.acts o.acts (through_more [] b.logs (first.state ∷ s.served.state ∷ []) list f.acts (o.acts ++ b.history) (λ none. absurd none) two_in two.0)
                  (always_wider b b.states list o.acts later_in st.0);
            },
            (st.1, two.1),
          )) (o.then (honest_on f.acts o.acts b.history honest))

      kept_book : (kept : Kept A) → KeepGives (passage adds mid new) store loads.log s.served.state (Ok tt) kept.store → IsHub kept.hub (begun s) → Opened {A = A} adds old new b profile book (Ok kept)
      kept_book kept given is =
          let f = kept_far (passage adds mid new) store kept.store s.served.state loads.log (Ok tt) given in
          record {
            acts = f.acts ++ o.acts;
            chain = chain_join adds old mid new f.acts o.acts o.chain f.chain;
            then = λ honest. map_left (λ st. (
              st.0,
              record {
                first = first;
                begins = begins_on (o.acts ++ b.history) st.1.0;
                events = BeginLog ∷ Reload book ∷ BeginLog ∷ [];
                loading = inr refl;
                state = begun s;
                extends = (s, loads.extends, refl);
                is = is;
                serving = subst (Serving kept.store s.served.state) (sym (append_assoc f.acts o.acts b.history)) st.1.1;
                log_is = refl;
                sessions = was_logged.0;
                lasting = lasts_on;
                profile_is = ap (λ (x : ServerState). x.realm.world.limits) state_is ∙ same;
                book_is = ap (λ (x : ServerState). x.settings.book) state_is;
              },
            )) (keeps (Ok tt) kept.store f honest);
          }

      kept_not : (fault : StoreFault) (store' : Store) → KeepGives (passage adds mid new) store loads.log s.served.state (Err fault) store' → Opened {A = A} adds old new b profile book (Err (Unopened fault))
      kept_not fault store' given =
          let f = kept_far (passage adds mid new) store store' s.served.state loads.log (Err fault) given in
          record {
            acts = f.acts ++ o.acts;
            chain = chain_join adds old mid new f.acts o.acts o.chain f.chain;
            then = λ honest. map_left (λ st. (st.0, keep_refusal (passage adds mid new) store.journal.has_failed (takes store (length loads.log)) store loads.log s.served.state fault store' given)) (keeps (Err fault) store' f honest);
          }

    goes_on : (result : Result (Kept A) KeptEnd) → GoesOnFrom (passage adds mid new) store q book result → Opened {A = A} adds old new b profile book result
    goes_on (Ok kept) (inl has) = had_book kept has
    goes_on (Ok kept) (inr keeps) = kept_book keeps.loads kept keeps.gives keeps.is
    goes_on (Err (Ended how)) none = absurd none
    goes_on (Err (Unopened fault)) (loads, store', given) = kept_not loads fault store' given
    goes_on (Err Unready) none = absurd none
    goes_on (Err Memory) stays = stays_refused Memory tt stays
    goes_on (Err Exhausted) stays = stays_refused Exhausted tt stays
    goes_on (Err OtherProfile) none = absurd none

  -- the store is of another profile
  other_profile : (store : Store) (q : ServerState) → q.realm.world.limits ≢ profile → (result : Result (Kept A) KeptEnd) → result ≡ Err OtherProfile → new ≡ mid → Opens adds old mid b (Ok (Started store q)) → Opened {A = A} adds old new b profile book result
  other_profile store q other result is same o =
      subst (λ (r : Result (Kept A) KeptEnd). Opened {A = A} adds old new b profile book r) (sym is)
      (record {
        acts = o.acts;
        chain = subst (λ (d : D). Chain adds o.acts old d) (sym same) o.chain;
        then = λ honest. map_left (λ st. (
          as_before b profile book o.acts st.0,
          (st.1.state, st.1.of_these, λ (is : st.1.state.realm.world.limits ≡ profile). other (ap (λ (r : Realm). r.world.limits) st.1.covers.realm.others ∙ is)),
        )) (o.then honest);
      })

  opens_then : (found : Result Ending StoreFault) (result : Result (Kept A) KeptEnd) → OpenGives (passage adds old mid) found → OpensThen (passage adds mid new) found profile book result → Opened {A = A} adds old new b profile book result
  opens_then (Ok (IsNew found)) result opens (inl (current, is, anew)) = begun_anew found current is (opens_after adds b old mid (Ok (IsNew found)) opens) result anew
  opens_then (Ok (IsNew found)) result opens (inr (is, same)) = no_identity found result is same (opens_after adds b old mid (Ok (IsNew found)) opens)
  opens_then (Ok (Started store q)) result opens (inl (same, on)) =
      goes_on store q same (start_lasts opens.sight.content q opens.goes_on.0.1) (opens_after adds b old mid (Ok (Started store q)) opens) result on
  opens_then (Ok (Started store q)) result opens (inr (other, is, same)) = other_profile store q other result is same (opens_after adds b old mid (Ok (Started store q)) opens)
  opens_then (Err fault) result opens (is, same) = not_opened fault result is same (opens_after adds b old mid (Err fault) opens)

pub opened : {A D : Type 0} (adds : Adding D) (old new : D) (b : Before) (profile : profiles.Limits) (book : Content) (result : Result (Kept A) KeptEnd) → OpensTo (passage adds old new) profile book result → Opened {A = A} adds old new b profile book result
opened {A} adds old new b profile book result o = opens_then A adds old o.mid new b profile book o.found result o.opens o.then

-- ---- acts of the site

pub adds_then : (a b c : Option (List Act)) (first later : List Act) → Adds a b first → Adds b c later → Adds a c (later ++ first)
adds_then None b c first later one two = tt
adds_then (Some a) None c first later one two = absurd one
adds_then (Some a) (Some b) None first later one two = absurd two
adds_then (Some a) (Some b) (Some c) first later one two = two ∙ (ap (λ (l : List Act). later ++ l) one ∙ sym (append_assoc later first a))

none_added : (a : Option (List Act)) → Adds a a []
none_added None = tt
none_added (Some a) = refl

module _ {D : Type 0} (A : Type 0) (acts_of : D → Option (List Act)) (adds : Adding D) (law : (old new : D) (act : DiskAct) → adds old act new → Adds (acts_of old) (acts_of new) (OnDisk act ∷ [])) where
  chain_adds : (acts : List DiskAct) (old new : D) → Chain adds acts old new → Adds (acts_of old) (acts_of new) (on_disk acts)
  chain_adds [] old new same = subst (λ (d : D). Adds (acts_of old) (acts_of d) []) (sym same) (none_added (acts_of old))
  chain_adds (act ∷ acts) old new (mid, chain, one) =
      adds_then (acts_of old) (acts_of mid) (acts_of new) (on_disk acts) (OnDisk act ∷ []) (chain_adds acts old mid chain) (law mid new act one)

  gives_end : (b : Before) (profile : profiles.Limits) (book : Content) (limits : Limits) (end : KeptEnd) (acts : List DiskAct) (mid : Option (List Act)) → Outcome {A = A} b profile book acts (Err end) → EndsSo A b profile book limits end acts mid mid
  gives_end b profile book limits (Ended how) acts mid none = absurd none
  gives_end b profile book limits (Unopened fault) acts mid refusal = (refusal, refl)
  gives_end b profile book limits Unready acts mid none = absurd none
  gives_end b profile book limits Memory acts mid done = refl
  gives_end b profile book limits Exhausted acts mid done = refl
  gives_end b profile book limits OtherProfile acts mid other = (other, refl)

  -- the store wasn't opened
  pub refused : (old new : D) (b : Before) (profile : profiles.Limits) (book : Content) (limits : Limits) (end : KeptEnd) → Opened {A = A} adds old new b profile book (Err end) → ServesKept A b profile book limits end (acts_of old) (acts_of new)
  refused old new b profile book limits end o = record {
    acts = o.acts;
    mid = acts_of new;
    adds = chain_adds o.acts old new o.chain;
    goes = λ honest. map_left (λ st. record { meanwhile = st.0; ends = gives_end b profile book limits end o.acts (acts_of new) st.1 }) (o.then honest);
  }

  -- the site can't begin
  pub unready : (old mid new : D) (b : Before) (profile : profiles.Limits) (book : Content) (limits : Limits) (kept : Kept A) → Opened {A = A} adds old mid b profile book (Ok kept) → Adds (acts_of mid) (acts_of new) [] → ServesKept A b profile book limits Unready (acts_of old) (acts_of new)
  unready old mid new b profile book limits kept o stays = record {
    acts = o.acts;
    mid = acts_of mid;
    adds = chain_adds o.acts old mid o.chain;
    goes = λ honest. map_left (λ st. record {
      meanwhile = st.0;
      ends = (stays, (st.1.state.served.state, record { store = kept.store; serving = st.1.serving; profile_is = st.1.profile_is; book_is = st.1.book_is }));
    }) (o.then honest);
  }

  abbrev pub ServesOver : (Limits → AllEnd → Kept A → Hub A → Option (List Act) → Option (List Act) → Type 0)
  ServesOver limits end kept hub' before after =
      (first : Served) (events : List Event) → IsHistoryOf first events kept.hub → (history : List DiskAct) → ServesOpen history kept.store kept.hub
      → ServesAll first events (record { limits = limits; store = Some kept.store; history = history }) end (record { hub = kept.hub; acts = before }) (record { hub = hub'; acts = after })

  pub served : (old mid begun_site new : D) (b : Before) (profile : profiles.Limits) (book : Content) (limits : Limits) (end : AllEnd) (kept : Kept A) (hub' : Hub A) → Opened {A = A} adds old mid b profile book (Ok kept) → Adds (acts_of mid) (acts_of begun_site) []
      → ServesOver limits end kept hub' (acts_of begun_site) (acts_of new) → ServesKept A b profile book limits (Ended end) (acts_of old) (acts_of new)
  served old mid begun_site new b profile book limits end kept hub' o stays serves = record {
    acts = o.acts;
    mid = acts_of begun_site;
    adds = adds_then (acts_of old) (acts_of mid) (acts_of begun_site) (on_disk o.acts) [] (chain_adds o.acts old mid o.chain) stays;
    goes = λ honest. map_left (λ st. record { meanwhile = st.0; ends = ends st.1 }) (o.then honest);
  }
    where
      ends : Ready b profile book o.acts kept → Serves A b profile book limits end o.acts (acts_of begun_site) (acts_of new)
      ends r =
          let history = o.acts ++ b.history in
          let is = r.is.served in
          let all = serves r.first r.events (record { state = r.state; extends = r.extends; is = r.is }) history
          (record {
            serving = subst (λ (x : Served). Serving kept.store x.state history) is r.serving;
            logs = subst (λ (x : Served). x.log ≡ Some []) is r.log_is;
            sessions = subst (λ (x : Served). x.in_sessions ≡ true) is r.sessions;
            lasting = subst (λ (x : Served). IsLasting x.state) is r.lasting;
          }) in
          let again : all.start.served ≡ r.state.served = all.was.served ∙ sym is in
          record {
            first = r.first;
            begins = r.begins;
            events = r.events;
            loading = r.loading;
            store = kept.store;
            hub = kept.hub;
            hub' = hub';
            serves = all;
            opened = record {
              store = kept.store;
              serving = subst (λ (x : Served). Serving kept.store x.state history) (sym again) r.serving;
              profile_is = ap (λ (x : Served). x.state.realm.world.limits) again ∙ r.profile_is;
              book_is = ap (λ (x : Served). x.state.settings.book) again ∙ r.book_is;
            };
          }
