-- What is stored represents a server after each change.
use Rattle.std.proofs.Common.{◌≡◌, ◌∙◌, List, [], ◌∷◌, ◌++◌, Some, refl, sym, ap, subst}
use Rattle.std.specs.List.{flat_map}
use Rattle.store_journal.specs.Disk.{Bytes}
use Rattle.store_journal.specs.Files.{Content}
use Rattle.log_entries.specs.Entries.{Entry, entries_in, entry_bytes}
use Rattle.log_entries.proofs.Again.{all_again}
use Rattle.checkpoint.specs.Kept.{Kept}
use Rattle.checkpoint.specs.Holds.{Holds, IsOfOther}
use Rattle.checkpoint.proofs.One.{states_not_other, holds_one}
use Rattle.checkpoint.proofs.Covering.{covers as covers_law}
use Rattle.compound_run.specs.Covering.{Covers}
use Rattle.compound_run.specs.State.{State, restored}
use Rattle.nfs_hub.specs.Answer.{REMEMBERED, Served}
use Rattle.hub_laws.proofs.Logged.{start_covers}
use Rattle.hub_laws.specs.Kept.{Logs, ReplaysAll}
use Rattle.call_store.specs.Lasting.{TwiceLaw, CheckpointLaw, StartLaw, with_bytes}
use Rattle.call_store.specs.Representing.{Restores, ReplaysRecords, ReplaysTo, Represents}
use Rattle.call_store.proofs.Alike.{entries_alike}
use Rattle.call_store.proofs.Lagging.{Alike, covers_itself, covers_lagging}

same_entries : (es fs : List Entry) → Some es ≡ Some fs → es ≡ fs
same_entries es fs e = cc

-- ---- twice

pub records_alike : (records : List Bytes) (q r q' r' : State) → Alike q r → ReplaysRecords records q q' → ReplaysRecords records r r' → Alike q' r'
records_alike [] q r q' r' a one other = subst (λ (x : State). Alike x r') (sym one) (subst (λ (x : State). Alike q x) (sym other) a)
records_alike (bytes ∷ records) q r q' r' a one other =
    let same : one.0 ≡ other.0 = same_entries one.0 other.0 (sym one.2 ∙ other.2) in
    let first = subst (λ (es : List Entry). ReplaysAll es q one.1) same one.3 in
    records_alike records one.1 other.1 q' r' (entries_alike other.0 q r one.1 other.1 a first other.3) one.4 other.4

-- the same parts restore one state
pub one_base : (parts : List Bytes) (p q : State) → Restores parts p → Restores parts q → p ≡ q
one_base parts p q one other =
    one.state_is ∙ (ap (λ (k : Kept). restored k.world k.clients k.book REMEMBERED) (holds_one parts one.kept other.kept one.holds other.holds) ∙ sym other.state_is)

pub twice_alike : (content : Content) (q r : State) → ((base : State) → Restores content.parts base → Covers base base) → ReplaysTo content q → ReplaysTo content r → Alike q r
twice_alike content q r fits one other =
    let itself = fits one.base one.restores in
    let same : other.base ≡ one.base = one_base content.parts other.base one.base other.restores one.restores in
    records_alike content.records one.base one.base q r (record { one = itself; other = itself }) one.replays (subst (λ (s : State). ReplaysRecords content.records s r) same other.replays)

pub twice_law : TwiceLaw
twice_law content q r fits one other = (twice_alike content q r fits one other).other

-- ---- a record

pub replays_more : (records : List Bytes) (bytes : Bytes) (entries : List Entry) (base q after : State) → ReplaysRecords records base q → entries_in bytes ≡ Some entries → ReplaysAll entries q after
    → ReplaysRecords (records ++ bytes ∷ []) base after
replays_more [] bytes entries base q after replays is more = (entries, after, is, subst (λ (s : State). ReplaysAll entries s after) replays more, refl)
replays_more (x ∷ records) bytes entries base q after replays is more =
    (replays.0, replays.1, replays.2, replays.3, replays_more records bytes entries replays.1 q after replays.4 is more)

record Split (records : List Bytes) (bytes : Bytes) (base after : State) : Type 0 where
  mid : State
  replays : ReplaysRecords records base mid
  entries : List Entry
  are : entries_in bytes ≡ Some entries
  last : ReplaysAll entries mid after

split : (records : List Bytes) (bytes : Bytes) (base after : State) → ReplaysRecords (records ++ bytes ∷ []) base after → Split records bytes base after
split [] bytes base after replays = record {
  mid = base;
  replays = refl;
  entries = replays.0;
  are = replays.2;
  last = subst (λ (s : State). ReplaysAll replays.0 base s) (sym replays.4) replays.3;
}
split (x ∷ records) bytes base after replays =
    let s = split records bytes replays.1 after replays.4 in
    record { mid = s.mid; replays = (replays.0, replays.1, replays.2, replays.3, s.replays); entries = s.entries; are = s.are; last = s.last }

same_log : (a b : Bytes) → Some a ≡ Some b → a ≡ b
same_log a b e = cc

-- the logged bytes are these entries
logged_are : (bytes : Bytes) (old new : Served) → (l : Logs [] old new) → new.log ≡ Some bytes → entries_in bytes ≡ Some l.entries
logged_are bytes old new l is =
    let same : bytes ≡ flat_map entry_bytes l.entries = same_log bytes (flat_map entry_bytes l.entries) (sym is ∙ l.log) in
    ap entries_in same ∙ all_again l.entries l.fit

pub record_represents : (content : Content) (bytes : Bytes) (old new : Served) → Represents content old.state → Logs [] old new → new.log ≡ Some bytes → Represents (with_bytes bytes content) new.state
record_represents content bytes old new represents l is = record {
  some =
      let q = represents.some.0 in
      let replayed = represents.some.1 in
      let more = l.replay_covers.some q (represents.each q replayed) in (
        more.0,
        record {
          base = replayed.base;
          restores = replayed.restores;
          replays = replays_more content.records bytes l.entries replayed.base q more.0 replayed.replays are more.1;
        },
      );
  each = λ after replayed.
      let s = split content.records bytes replayed.base after replayed.replays in
      let covers = represents.each s.mid (record { base = replayed.base; restores = replayed.restores; replays = s.replays }) in
      l.replay_covers.each s.mid after covers (subst (λ (es : List Entry). ReplaysAll es s.mid after) (same_entries s.entries l.entries (sym s.are ∙ are)) s.last);
  fits = represents.fits;
}
  where
    are : entries_in bytes ≡ Some l.entries
    are = logged_are bytes old new l is

none_logged : (content : Content) (old new : Served) → Represents content old.state → (l : Logs [] old new) → l.entries ≡ [] → Represents content new.state
none_logged content old new represents l none = record {
  some = represents.some;
  each = λ q replayed. l.replay_covers.each q q (represents.each q replayed) (subst (λ (es : List Entry). ReplaysAll es q q) (sym none) refl);
  fits = represents.fits;
}

pub nothing_represents : (content : Content) (old new : Served) → Represents content old.state → Logs [] old new → new.log ≡ Some [] → Represents content new.state
nothing_represents content old new represents l is = none_logged content old new represents l (same_entries l.entries [] (sym (logged_are [] old new l is) ∙ all_again [] tt))

-- ---- a checkpoint

pub checkpoint_represents : CheckpointLaw
checkpoint_represents parts kept s keeps lasting = record {
  some = (base, record { base = base; restores = restores; replays = refl });
  each = λ q replayed. subst (λ (x : State). Covers x s) (sym (replayed.replays ∙ one_base parts replayed.base base replayed.restores restores)) covers;
  fits = λ b restored. subst (λ (x : State). Covers x x) (sym (one_base parts b base restored restores)) (covers_itself base s covers);
}
  where
    base : State
    base = restored kept.world kept.clients kept.book REMEMBERED

    restores : Restores parts base
    restores = record { kept = kept; holds = keeps.holds; fits = keeps.fits; state_is = refl }

    covers : Covers base s
    covers = covers_law kept s REMEMBERED keeps.is_of keeps.in_order keeps.was_in_order lasting.lasting lasting.epoch

-- ---- a start

pub start_represents : StartLaw
start_represents content s q represents replayed = (
  start_covers q s (represents.each q replayed),
  record {
    some = (q, replayed);
    each = λ r other. covers_lagging r q (twice_alike content r q represents.fits other replayed);
    fits = represents.fits;
  },
)

-- ---- another profile

-- parts that hold something aren't of another profile
pub not_other : (parts : List Bytes) (kept : Kept) → Holds parts kept → IsOfOther parts → ⊥
not_other [] kept holds other = other
not_other (a ∷ others) kept holds other = states_not_other a kept.world.limits kept.book holds.states other
