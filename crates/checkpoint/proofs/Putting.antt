-- Parts that are written in order.
use Rattle.std.proofs.Common.{◌≡◌, inl, inr, ℕ, ◌≤◌, ◌<◌, ◌+◌, ◌^◌, min, Bool, true, false, cond, List, [], ◌∷◌, ◌++◌, length, map, take, drop, get_or, refl, sym, ◌∙◌, ap, subst, arith, append_assoc, Ok, Err, Some, None}
use Rattle.std.specs.Prelude.{Option, Result, IsSome, OnOk, ◌&&◌, is_some, slice_get, find, flat_map, nat_le, nat_lt}
use Rattle.std.specs.List.{AllByRecursion, list_all}
use Rattle.std.specs.Option.{option_map, option_map_or}
use Rattle.std.specs.Map.{lookup}
use Rattle.std.specs.BTreeMap.{is_at}
use Rattle.std.specs.Ordering.{nat_cmp}
use Rattle.std.proofs.lemmas.Bool.Decides.{nat_tests}
use Rattle.std.proofs.lemmas.List.{append-nil, take_all, take_more, take-append-drop}
use Rattle.std.proofs.lemmas.List.Concat.{flat_map-append}
use Rattle.xdr_wire.specs.Xdr.{Value, HasSpelling, spelling}
use Rattle.xdr_wire.specs.Reading.{read_at}
use Rattle.xdr_wire.specs.Buffer.{Buffer}
use Rattle.xdr_wire.specs.Buffer as buffers
use Rattle.xdr_wire.proofs.Spelling.{again, spelled}
use Rattle.node_tree.specs.World.{World, Object, Name, object, is_file_at}
use Rattle.node_tree.specs.Sound.{IsSound, IsIn, Rises}
use Rattle.node_tree.specs.Parts.{number_after, any_after}
use Rattle.node_tree.proofs.Reading.{read_in_order}
use Rattle.node_tree.proofs.Objects.{is_at-same, is_at-apart}
use Rattle.client_parts.specs.Comparing.{AreSame}
use Rattle.session_slots.specs.Registry.{Registry, client_at}
use Rattle.compound_run.specs.Limits.{MAX_OWNER}
use Rattle.compound_run.specs.Realm.{Opened}
use Rattle.compound_run.specs.ClientState.{ClientState, is_access, is_next, is_seqid, open_fits, opens_fit, rise_above}
use Rattle.compound_run.specs.State.{State, client_state_of}
use Rattle.tree_parts.specs.Parts.{part, parts, counters_value, object_parts, name_value}
use Rattle.tree_parts.specs.Again.{IsTakenAgain}
use Rattle.store_journal.specs.declared.fault.JournalFault.{JournalFault}
use Rattle.store_journal.specs.declared.journal.Journal.{Journal}
use Rattle.store_journal.specs.Disk.{Bytes}
use Rattle.store_journal.specs.Keeping.{BeginGives, PartGives, FinishGives}
use Rattle.store_journal.specs.Passage.{Adding, passage}
use Rattle.checkpoint.specs.declared.fault.WriteFault.{WriteFault}
use Rattle.checkpoint.specs.declared.fault.WriteFault.TheVariants.{Unfit, Memory, Refused}
use Rattle.checkpoint.specs.Head.{HeadStates}
use Rattle.checkpoint.specs.Holds.{BeginsClients, ReadsParts}
use Rattle.checkpoint.specs.internal.Drafting.{Draft, IsDraft, draft_parts, all_parts}
use Rattle.checkpoint.specs.Writing.{BreaksOff, IsUnfitUnless, part_frame, PartsGiven, PartsEnd, Ended, KeepsAll, total, size_of}
use Rattle.checkpoint.specs.internal.Writing.{counted, object_bytes, name_bytes, parts_at, HasObjectSpelling, HasNameSpelling}
use Rattle.checkpoint.specs.internal.Writing.{HaveSpelling}

-- ---- steps

pub given_none : {D : Type 0} (adds : Adding D) (j : Journal) (d : D) → PartsGiven (passage adds d d) j [] j
given_none adds j d = (refl, refl)

pub given_then : {D : Type 0} (adds : Adding D) (j k l : Journal) (first more : List Bytes) (old mid new : D) → PartsGiven (passage adds old mid) j first k → PartsGiven (passage adds mid new) k more l → PartsGiven (passage adds old new) j (first ++ more) l
given_then {D} adds j k l [] more old mid new one two =
    subst (λ (d : D). PartsGiven (passage adds d new) j more l) one.0 (subst (λ (x : Journal). PartsGiven (passage adds mid new) x more l) one.1 two)
given_then adds j k l (bytes ∷ first) more old mid new (d, x, one, rest) two = (d, x, one, given_then adds x k l first more d mid new rest two)

pub one_given : {D : Type 0} (adds : Adding D) (j k : Journal) (bytes : Bytes) (old new : D) → PartGives (passage adds old new) j (part_frame bytes) (Ok tt) k → PartsGiven (passage adds old new) j (bytes ∷ []) k
one_given adds j k bytes old new gives = (new, k, gives, (refl, refl))

pub one_refused : {D : Type 0} (adds : Adding D) (j k : Journal) (bytes : Bytes) (fault : JournalFault) (old new : D) → PartGives (passage adds old new) j (part_frame bytes) (Err fault) k → PartsEnd (passage adds old new) j (bytes ∷ []) (Err (Refused fault)) k
one_refused adds j k bytes fault old new gives = record { prefix = []; next = bytes; others = []; parts_are = refl; mid = old; k = j; given = (refl, refl); refused = gives }

pub ends_then : {D : Type 0} (adds : Adding D) (j k l : Journal) (first more : List Bytes) (result : Result (Unit {0}) WriteFault) (old mid new : D) → PartsGiven (passage adds old mid) j first k → PartsEnd (passage adds mid new) k more result l → PartsEnd (passage adds old new) j (first ++ more) result l
ends_then adds j k l first more (Ok done) old mid new one two = given_then adds j k l first more old mid new one two
ends_then adds j k l first more (Err Unfit) old mid new one two = two
ends_then adds j k l first more (Err Memory) old mid new one two = record {
  prefix = first ++ two.prefix;
  others = two.others;
  parts_are = ap (λ (x : List Bytes). first ++ x) two.parts_are ∙ sym (append_assoc first two.prefix two.others);
  given = given_then adds j k l first two.prefix old mid new one two.given;
}
ends_then adds j k l first more (Err (Refused fault)) old mid new one two = record {
  prefix = first ++ two.prefix;
  next = two.next;
  others = two.others;
  parts_are = ap (λ (x : List Bytes). first ++ x) two.parts_are ∙ sym (append_assoc first two.prefix (two.next ∷ two.others));
  mid = two.mid;
  k = two.k;
  given = given_then adds j k two.k first two.prefix old mid two.mid one two.given;
  refused = two.refused;
}

-- after a fault nothing more is written
pub ends_more : {D : Type 0} (adds : Adding D) (j k : Journal) (first more : List Bytes) (fault : WriteFault) (old new : D) → PartsEnd (passage adds old new) j first (Err fault) k → PartsEnd (passage adds old new) j (first ++ more) (Err fault) k
ends_more adds j k first more Unfit old new it = it
ends_more adds j k first more Memory old new it = record {
  prefix = it.prefix;
  others = it.others ++ more;
  parts_are = ap (λ (x : List Bytes). x ++ more) it.parts_are ∙ append_assoc it.prefix it.others more;
  given = it.given;
}
ends_more adds j k first more (Refused fault) old new it = record {
  prefix = it.prefix;
  next = it.next;
  others = it.others ++ more;
  parts_are = ap (λ (x : List Bytes). x ++ more) it.parts_are ∙ append_assoc it.prefix (it.next ∷ it.others) more;
  mid = it.mid;
  k = it.k;
  given = it.given;
  refused = it.refused;
}

-- after a part for which an allocation fails nothing more is written
pub ends_stop : {D : Type 0} (adds : Adding D) (j k : Journal) (first more : List Bytes) (old new : D) → PartsGiven (passage adds old new) j first k → PartsEnd (passage adds old new) j (first ++ more) (Err Memory) k
ends_stop adds j k first more old new it = record { prefix = first; others = more; parts_are = refl; given = it }

-- the same of an equal list of parts
pub ends_as : {D : Type 0} (adds : Adding D) (j k : Journal) (some all : List Bytes) (result : Result (Unit {0}) WriteFault) (old new : D) → some ≡ all → PartsEnd (passage adds old new) j some result k → PartsEnd (passage adds old new) j all result k
ends_as adds j k some all result old new is it = subst (λ (l : List Bytes). PartsEnd (passage adds old new) j l result k) is it

-- ---- parts that were made before

pub map_append : {X Y : Type 0} (f : X → Y) (xs ys : List X) → map f (xs ++ ys) ≡ map f xs ++ map f ys
map_append f [] ys = refl
map_append f (x ∷ xs) ys = ap (λ (l : List _). f x ∷ l) (map_append f xs ys)

made_more : {X : Type 0} (f : X → Bytes) (xs : List X) (i : ℕ) (x : X) → i < length xs → x ≡ get_or xs i x → map f (take (i + 1) xs) ≡ map f (take i xs) ++ f x ∷ []
made_more {X} f xs i x lt is = ap (map f) (take_more xs i x lt ∙ ap (λ (y : X). take i xs ++ y ∷ []) (sym is)) ∙ map_append f (take i xs) (x ∷ [])

-- one of the parts is written, or isn't
module _ {D X : Type 0} (adds : Adding D) (f : X → Bytes) (xs : List X) (i : ℕ) (x : X) (lt : i < length xs) (is : x ≡ get_or xs i x) (j k l : Journal) (old mid new : D) (so_far : PartsGiven (passage adds old mid) j (map f (take i xs)) k) where
  pub made_given : PartsGiven (passage adds mid new) k (f x ∷ []) l → PartsGiven (passage adds old new) j (map f (take (i + 1) xs)) l
  made_given one =
      subst (λ (b : List Bytes). PartsGiven (passage adds old new) j b l) (sym (made_more f xs i x lt is))
      (given_then adds j k l (map f (take i xs)) (f x ∷ []) old mid new so_far one)

  pub made_stop : (fault : WriteFault) → PartsEnd (passage adds mid new) k (f x ∷ []) (Err fault) l → PartsEnd (passage adds old new) j (map f xs) (Err fault) l
  made_stop fault one =
      let all : (map f (take i xs) ++ f x ∷ []) ++ map f (drop (i + 1) xs) ≡ map f xs =
      ap (λ (b : List Bytes). b ++ map f (drop (i + 1) xs)) (sym (made_more f xs i x lt is)) ∙ sym (map_append f (take (i + 1) xs) (drop (i + 1) xs)) ∙ ap (map f) (take-append-drop (i + 1) xs) in
      ends_as adds j l ((map f (take i xs) ++ f x ∷ []) ++ map f (drop (i + 1) xs)) (map f xs) (Err fault) old new all
      (ends_more adds j l (map f (take i xs) ++ f x ∷ []) (map f (drop (i + 1) xs)) fault old new
      (ends_then adds j k l (map f (take i xs)) (f x ∷ []) (Err fault) old mid new so_far one))

pub made_all : {X : Type 0} (f : X → Bytes) (xs : List X) (i : ℕ) → length xs ≤ i → map f (take i xs) ≡ map f xs
made_all f xs i le = ap (map f) (take_all i xs le)

-- ---- the size of the parts

pub counted_then : (size : ℕ) (first more : List Bytes) → counted size (first ++ more) ≡ counted (counted size first) more
counted_then size [] more = refl
counted_then size (bytes ∷ first) more = counted_then (min (size + length bytes) 18446744073709551615) first more

counted_is : (size : ℕ) (all : List Bytes) → size ≤ 18446744073709551615 → counted size all ≡ min (size + total all) 18446744073709551615
counted_is size [] few = none size few
  where
    none : (n : ℕ) → n ≤ 18446744073709551615 → n ≡ min (n + 0) 18446744073709551615
    none n few = grind (arith, few)
counted_is size (bytes ∷ others) few = counted_is (min (size + length bytes) 18446744073709551615) others (within (size + length bytes)) ∙ more size (length bytes) (total others)
  where
    within : (n : ℕ) → min n 18446744073709551615 ≤ 18446744073709551615
    within n = grind arith

    more : (a b c : ℕ) → min (min (a + b) 18446744073709551615 + c) 18446744073709551615 ≡ min (a + (b + c)) 18446744073709551615
    more a b c = grind arith

pub size_is_counted : (size : ℕ) (all : List Bytes) → size ≡ counted 0 all → size ≡ size_of all
size_is_counted size all is = is ∙ counted_is 0 all (omega arith) ∙ from_none (total all)
  where
    from_none : (n : ℕ) → min (0 + n) 18446744073709551615 ≡ min n 18446744073709551615
    from_none n = grind arith

-- the size with one of the parts more
pub made_counted : {X : Type 0} (f : X → Bytes) (xs : List X) (i : ℕ) (x : X) → i < length xs → x ≡ get_or xs i x → (size size' size'' : ℕ) → size' ≡ counted size (map f (take i xs)) → size'' ≡ counted size' (f x ∷ []) → size'' ≡ counted size (map f (take (i + 1) xs))
made_counted f xs i x lt is size size' size'' before one =
    one ∙ ap (λ (n : ℕ). counted n (f x ∷ [])) before ∙ sym (counted_then size (map f (take i xs)) (f x ∷ [])) ∙ ap (counted size) (sym (made_more f xs i x lt is))

-- an item was written into an empty buffer
pub written_alone : (old new : Buffer) (item : Bytes) → old.bytes ≡ [] → buffers.Appends old new item → new.bytes ≡ item
written_alone old new item empty appended = appended.appended ∙ ap (λ (l : Bytes). l ++ item) empty

-- ---- all parts

all_both : {X : Type 0} (P : X → Type 0) (xs ys : List X) → AllByRecursion P xs → AllByRecursion P ys → AllByRecursion P (xs ++ ys)
all_both P [] ys all more = more
all_both P (x ∷ xs) ys all more = (all.0, all_both P xs ys all.1 more)

-- the parts of an object
abbrev parts_in : ℕ × Object → List (Value part)
parts_in e = object_parts e.0 e.1

parts_spelled : (w : World) → map (spelling part) (parts w) ≡ spelling part (counters_value w) ∷ (flat_map object_bytes w.objects ++ map name_bytes w.names)
parts_spelled w = ap (λ (l : List Bytes). spelling part (counters_value w) ∷ l) (objects_spelled w.objects)
  where
    names_spelled : (names : List Name) → map (spelling part) (map name_value names) ≡ map name_bytes names
    names_spelled [] = refl
    names_spelled (n ∷ names) = ap (λ (l : List Bytes). name_bytes n ∷ l) (names_spelled names)

    objects_spelled : (objects : List (ℕ × Object)) → map (spelling part) (flat_map parts_in objects ++ map name_value w.names) ≡ flat_map object_bytes objects ++ map name_bytes w.names
    objects_spelled [] = names_spelled w.names
    objects_spelled (e ∷ objects) =
        ap (map (spelling part)) (append_assoc (parts_in e) (flat_map parts_in objects) (map name_value w.names))
        ∙ map_append (spelling part) (parts_in e) (flat_map parts_in objects ++ map name_value w.names)
        ∙ ap (λ (l : List Bytes). object_bytes e ++ l) (objects_spelled objects)
        ∙ sym (append_assoc (object_bytes e) (flat_map object_bytes objects) (map name_bytes w.names))

pub all_parts_are : (w : World) (d : Draft) → draft_parts d ++ ((spelling part (counters_value w) ∷ []) ++ (flat_map object_bytes w.objects ++ map name_bytes w.names)) ≡ all_parts w d
all_parts_are w d = ap (λ (l : List Bytes). draft_parts d ++ l) (sym (parts_spelled w))

pub all_have : (w : World) → HasSpelling part (counters_value w) → AllByRecursion HasObjectSpelling w.objects → AllByRecursion HasNameSpelling w.names → AllByRecursion (HasSpelling part) (parts w)
all_have w counters objects names = (counters, all_both (HasSpelling part) (flat_map parts_in w.objects) (map name_value w.names) (objects_have w.objects objects) (names_have w.names names))
  where
    names_have : (names : List Name) → AllByRecursion HasNameSpelling names → AllByRecursion (HasSpelling part) (map name_value names)
    names_have [] all = tt
    names_have (n ∷ names) all = (all.0, names_have names all.1)

    objects_have : (objects : List (ℕ × Object)) → AllByRecursion HasObjectSpelling objects → AllByRecursion (HasSpelling part) (flat_map parts_in objects)
    objects_have [] all = tt
    objects_have (e ∷ objects) all = all_both (HasSpelling part) (parts_in e) (flat_map parts_in objects) all.0 (objects_have objects all.1)

reads_parts : (values : List (Value part)) → AllByRecursion (HasSpelling part) values → ReadsParts (map (spelling part) values) values
reads_parts [] all = tt
reads_parts (v ∷ values) all = (read_whole, reads_parts values all.1)
  where
    read_whole : read_at part (spelling part v) ≡ Ok (v, [])
    read_whole = ap (read_at part) (sym (append-nil (spelling part v))) ∙ again part v (spelling part v) [] (spelled part v all.0)

-- open files that fit clients fit equal clients
all_alike : (w : World) (r q : Registry) (next : ℕ) (opens : List Opened) → ((number : ℕ) → client_at r number ≡ client_at q number) → list_all (open_fits w r next) opens ≡ list_all (open_fits w q next) opens
all_alike w r q next [] same = refl
all_alike w r q next (o ∷ opens) same =
    λ i. (nat_lt o.number next && (is_file_at w o.object && (is_some (same o.client i) && (nat_le (length o.owner) MAX_OWNER && (is_access o.access && is_seqid o.seqid))))) && all_alike w r q next opens same i

abbrev clients_with : Registry → List Opened → ℕ → ClientState
clients_with r opens next = record { registry = r; opens = opens; next_open = next }

fits_alike : (w : World) (a b : ClientState) → AreSame a b → opens_fit w a ≡ opens_fit w b
fits_alike w a b same =
    (λ i. opens_fit w (clients_with a.registry (same.opens i) (same.next_open i)))
    ∙ ap (λ (fit : Bool). is_next b.next_open && (nat_le (length b.opens) w.limits.opens && (rise_above 0 b.opens && fit))) (all_alike w a.registry b.registry b.next_open b.opens same.records)

-- the checkpoint of a server's tree, of its clients and of its book keeps all
pub checkpoint_keeps : (w : World) (d : Draft) (clients : ClientState) (s : State) → w ≡ s.realm.world → opens_fit w (client_state_of s) ≡ true → IsDraft d clients s → IsTakenAgain w → HaveSpelling w → KeepsAll (all_parts w d) (record { world = w; clients = clients; book = s.settings.book }) s
checkpoint_keeps w d clients s is fits draft read_again have = record {
  holds = record {
    states = subst (λ (x : World). HeadStates d.head x.limits s.settings.book) (sym is) draft.states;
    clients = d.clients;
    tree = map (spelling part) (parts w);
    others_are = refl;
    begins = subst (λ (x : World). BeginsClients x.limits d.clients clients) (sym is) draft.begins;
    restores = record {
      values = parts w;
      read = reads_parts (parts w) have;
      begun = read_again.begun;
      taken = read_again.taken;
      whole = read_again.whole;
      world_is = sym read_again.same;
    };
  };
  is_of = record { world_is = is; clients_are = draft.same; book_is = refl };
  fits = fits_alike w clients (client_state_of s) draft.same ∙ fits;
  in_order = draft.in_order;
  was_in_order = draft.was_in_order;
}

-- ---- objects, by rising number

rises_to : {X : Type 0} (key : X → ℕ) (low high : ℕ) (prefix : List X) (x : X) (back : List X) → Rises key low (prefix ++ x ∷ back) high → low ≤ key x
rises_to key low high [] x back rises = rises.0
rises_to key low high (y ∷ prefix) x back rises = let a : low ≤ key y = rises.0 in let b : key y + 1 ≤ key x = rises_to key (key y + 1) high prefix x back rises.1 in omega arith

-- the item of a number is found at its place
is_at_place : (low high : ℕ) (prefix : List (ℕ × Object)) (e : ℕ × Object) (back : List (ℕ × Object)) → Rises (λ e. e.0) low (prefix ++ e ∷ back) high → lookup (is_at (nat_cmp e.0)) (prefix ++ e ∷ back) ≡ Some e.1
is_at_place low high [] e back rises = ap (λ b. cond b (Some e.1) (lookup (is_at (nat_cmp e.0)) back)) (is_at-same e.0)
is_at_place low high (y ∷ prefix) e back rises =
    let above : y.0 + 1 ≤ e.0 = rises_to (λ (e : ℕ × Object). e.0) (y.0 + 1) high prefix e back rises.1 in
    ap (λ b. cond b (Some y.1) (lookup (is_at (nat_cmp e.0)) (prefix ++ e ∷ back))) (is_at-apart e.0 y.0 (λ same. absurd (omega (arith, above, same))))
    ∙ is_at_place (y.0 + 1) high prefix e back rises.1

-- the objects before a place were written
pub record ObjectsPut {D : Type 0} (adds : Adding D) (w : World) (at : ℕ) (c c' : Journal) (size size' : ℕ) (old new : D) : Type 0 where
  pub before : List (ℕ × Object)
  pub left : List (ℕ × Object)
  pub are : w.objects ≡ before ++ left
  pub next : number_after w at ≡ option_map (λ e. e.0) (slice_get left 0)
  pub have : AllByRecursion HasObjectSpelling before
  pub given : PartsGiven (passage adds old new) c (flat_map object_bytes before) c'
  pub size_is : size' ≡ counted size (flat_map object_bytes before)

pub objects_begun : {D : Type 0} (adds : Adding D) (w : World) (c : Journal) (size : ℕ) (d : D) → IsSound w → ObjectsPut adds w 0 c c size size d d
objects_begun adds w c size d sound = record { before = []; left = w.objects; are = refl; next = (read_in_order w sound).first_object; have = tt; given = given_none adds c d; size_is = refl }

pub map_push : {X Y : Type 0} (f : X → Y) (xs : List X) (x : X) → map f (xs ++ x ∷ []) ≡ map f xs ++ f x ∷ []
map_push f [] x = refl
map_push f (y ∷ xs) x = ap (λ (l : List _). f y ∷ l) (map_push f xs x)

pub all_push : {X : Type 0} (P : X → Type 0) (xs : List X) (x : X) → AllByRecursion P xs → P x → AllByRecursion P (xs ++ x ∷ [])
all_push P [] x all it = (it, tt)
all_push P (y ∷ xs) x all it = (all.0, all_push P xs x all.1 it)

-- the object that comes next
pub record NextObject (w : World) (before left : List (ℕ × Object)) (number : ℕ) : Type 0 where
  pub o : Object
  pub rest : List (ℕ × Object)
  pub is : left ≡ (number, o) ∷ rest
  pub found : object w number ≡ Some o
  pub next : number_after w number ≡ option_map (λ e. e.0) (slice_get rest 0)

pub next_object : (w : World) (before left : List (ℕ × Object)) (number : ℕ) → IsSound w → w.objects ≡ before ++ left → option_map (λ e. e.0) (slice_get left 0) ≡ Some number → NextObject w before left number
next_object w before [] number sound are next = absurd (never next)
  where
    never : None ≡ Some number → ⊥
    never e = cc
next_object w before (e ∷ rest) number sound are next =
    let same : e.0 ≡ number = cc in
    let found : object w e.0 ≡ Some e.1 = ap (lookup (is_at (nat_cmp e.0))) are ∙ is_at_place 1 w.next_number before e rest (subst (λ (l : List (ℕ × Object)). Rises (λ e. e.0) 1 l w.next_number) are sound.numbered) in
    let after : number_after w e.0 ≡ option_map (λ e. e.0) (slice_get rest 0) = (read_in_order w sound).next_object before rest e.0 e.1 are in
    record {
      o = e.1;
      rest = rest;
      is = ap (λ (n : ℕ). entry n e.1 ∷ rest) same;
      found = subst (λ (n : ℕ). object w n ≡ Some e.1) same found;
      next = subst (λ (n : ℕ). number_after w n ≡ option_map (λ e. e.0) (slice_get rest 0)) same after;
    }
  where
    entry : ℕ → Object → ℕ × Object
    entry n o = (n, o)

flat_push : {X Y : Type 0} (f : X → List Y) (xs : List X) (x : X) → flat_map f (xs ++ x ∷ []) ≡ flat_map f xs ++ f x
flat_push f xs x = flat_map-append f xs (x ∷ []) ∙ ap (λ (l : List _). flat_map f xs ++ l) (append-nil (f x))

-- the parts of the object of a number
pub parts_found : (w : World) (number : ℕ) (o : Object) → object w number ≡ Some o → parts_at w number ≡ object_parts number o
parts_found w number o is = ap (λ (x : Option Object). option_map_or (object_parts number) x []) is

-- one object more
pub object_put : {D : Type 0} (adds : Adding D) (w : World) (at number : ℕ) (c c' c'' : Journal) (size size' size'' : ℕ) (old mid new : D) → IsSound w → size'' ≡ counted size' (map (spelling part) (parts_at w number)) → ObjectsPut adds w at c c' size size' old mid → number_after w at ≡ Some number → AllByRecursion (HasSpelling part) (parts_at w number) → PartsGiven (passage adds mid new) c' (map (spelling part) (parts_at w number)) c'' → ObjectsPut adds w number c c'' size size'' old new
object_put adds w at number c c' c'' size size' size'' old mid new sound sized so_far some have given =
    let n = next_object w so_far.before so_far.left number sound so_far.are (sym so_far.next ∙ some) in
    let e : ℕ × Object = (number, n.o) in
    let are : parts_at w number ≡ object_parts number n.o = parts_found w number n.o n.found in
    record {
      before = so_far.before ++ e ∷ [];
      left = n.rest;
      are = so_far.are ∙ ap (λ (l : List (ℕ × Object)). so_far.before ++ l) n.is ∙ sym (append_assoc so_far.before (e ∷ []) n.rest);
      next = n.next;
      have = all_push HasObjectSpelling so_far.before e so_far.have (subst (AllByRecursion (HasSpelling part)) are have);
      given = subst (λ (l : List Bytes). PartsGiven (passage adds old new) c l c'') (sym (flat_push object_bytes so_far.before e))
          (given_then adds c c' c'' (flat_map object_bytes so_far.before) (object_bytes e) old mid new so_far.given (subst (λ (l : List (Value part)). PartsGiven (passage adds mid new) c' (map (spelling part) l) c'') are given));
      size_is = sized ∙ ap (λ (l : List (Value part)). counted size' (map (spelling part) l)) are ∙ ap (λ (k : ℕ). counted k (object_bytes e)) so_far.size_is
          ∙ sym (counted_then size (flat_map object_bytes so_far.before) (object_bytes e)) ∙ ap (counted size) (sym (flat_push object_bytes so_far.before e));
    }

-- the next object isn't written, or not completely
pub object_stop : {D : Type 0} (adds : Adding D) (w : World) (at number : ℕ) (c c' c'' : Journal) (size size' : ℕ) (fault : WriteFault) (old mid new : D) → IsSound w → ObjectsPut adds w at c c' size size' old mid → number_after w at ≡ Some number → PartsEnd (passage adds mid new) c' (map (spelling part) (parts_at w number)) (Err fault) c'' → PartsEnd (passage adds old new) c (flat_map object_bytes w.objects) (Err fault) c''
object_stop adds w at number c c' c'' size size' fault old mid new sound so_far some ended =
    let n = next_object w so_far.before so_far.left number sound so_far.are (sym so_far.next ∙ some) in
    let x : List Bytes = object_bytes (number, n.o) in
    let before : List Bytes = flat_map object_bytes so_far.before in
    let rest : List Bytes = flat_map object_bytes n.rest in
    let all : before ++ (x ++ rest) ≡ flat_map object_bytes w.objects = sym (flat_map-append object_bytes so_far.before ((number, n.o) ∷ n.rest)) ∙ ap (flat_map object_bytes) (sym (so_far.are ∙ ap (λ (l : List (ℕ × Object)). so_far.before ++ l) n.is)) in
    ends_as adds c c'' ((before ++ x) ++ rest) (flat_map object_bytes w.objects) (Err fault) old new (append_assoc before x rest ∙ all)
    (ends_more adds c c'' (before ++ x) rest fault old new
    (ends_then adds c c' c'' before x (Err fault) old mid new so_far.given (subst (λ (l : List (Value part)). PartsEnd (passage adds mid new) c' (map (spelling part) l) (Err fault) c'') (parts_found w number n.o n.found) ended)))

none_left : (objects : List (ℕ × Object)) → option_map (λ e. e.0) (slice_get objects 0) ≡ None → objects ≡ []
none_left [] is = refl
none_left (e ∷ objects) is = absurd (never is)
  where
    never : Some e.0 ≡ None → ⊥
    never e = cc

pub objects_done : {D : Type 0} (adds : Adding D) (w : World) (at : ℕ) (c c' : Journal) (size size' : ℕ) (old new : D) → (p : ObjectsPut adds w at c c' size size' old new) → number_after w at ≡ None → p.before ≡ w.objects
objects_done adds w at c c' size size' old new p none =
    sym (p.are ∙ ap (λ (l : List (ℕ × Object)). p.before ++ l) (none_left p.left (sym p.next ∙ none)) ∙ append-nil p.before)

-- each number that is found has an object
pub there_is : {D : Type 0} (adds : Adding D) (w : World) (at number : ℕ) (c c' : Journal) (size size' : ℕ) (old new : D) → IsSound w → ObjectsPut adds w at c c' size size' old new → number_after w at ≡ Some number → IsSome (object w number)
there_is adds w at number c c' size size' old new sound p some =
    let n = next_object w p.before p.left number sound p.are (sym p.next ∙ some) in
    subst IsSome (sym n.found) refl

rises_from : {X : Type 0} (key : X → ℕ) (low high : ℕ) (xs : List X) → Rises key low xs high → low ≤ high
rises_from key low high [] rises = rises
rises_from key low high (x ∷ xs) rises = let a : low ≤ key x = rises.0 in let b : key x + 1 ≤ high = rises_from key (key x + 1) high xs rises.1 in omega arith

pub rises_below : {X : Type 0} (key : X → ℕ) (low high : ℕ) (prefix : List X) (x : X) (back : List X) → Rises key low (prefix ++ x ∷ back) high → key x < high
rises_below key low high [] x back rises = let b : key x + 1 ≤ high = rises_from key (key x + 1) high back rises.1 in omega arith
rises_below key low high (y ∷ prefix) x back rises = rises_below key (key y + 1) high prefix x back rises.1

later_number : (at : ℕ) (es : List (ℕ × Object)) (number : ℕ) → option_map (λ e. e.0) (find (λ e. nat_lt at e.0) es) ≡ Some number → at < number
later_number at [] number is = absurd (never is)
  where
    never : None ≡ Some number → ⊥
    never e = cc
later_number at (e ∷ es) number is =
    elim (nat_lt at e.0) as (λ b. nat_lt at e.0 ≡ b → option_map (λ e. e.0) (cond b (Some e) (find (λ e. nat_lt at e.0) es)) ≡ Some number → at < number) [
      | true ↦ λ test some.
          let less : at < e.0 = grind (arith, nat_tests, test) in
          let same : e.0 ≡ number = cc in
          omega (arith, less, same)
      | false ↦ λ test some. later_number at es number some
    ] refl is

-- the next number is closer to the last
pub number_closer : {D : Type 0} (adds : Adding D) (w : World) (at number : ℕ) (c c' : Journal) (size size' : ℕ) (old new : D) → IsSound w → ObjectsPut adds w at c c' size size' old new → number_after w at ≡ Some number → (at < number) × (number < 2 ^ 63)
number_closer adds w at number c c' size size' old new sound p some =
    let n = next_object w p.before p.left number sound p.are (sym p.next ∙ some) in
    let below : number < w.next_number = rises_below (λ (e : ℕ × Object). e.0) 1 w.next_number p.before (number, n.o) n.rest (subst (λ (l : List (ℕ × Object)). Rises (λ e. e.0) 1 l w.next_number) (p.are ∙ ap (λ (l : List (ℕ × Object)). p.before ++ l) n.is) sound.numbered) in
    (later_number at w.objects number some, (let most = sound.counted.numbers in omega (arith, below, most)))

-- ---- names, by rising cookie

-- the names before a place were written
pub record NamesPut {D : Type 0} (adds : Adding D) (w : World) (at : ℕ) (c c' : Journal) (size size' : ℕ) (old new : D) : Type 0 where
  pub before : List Name
  pub left : List Name
  pub are : w.names ≡ before ++ left
  pub next : any_after w at ≡ slice_get left 0
  pub have : AllByRecursion HasNameSpelling before
  pub given : PartsGiven (passage adds old new) c (map name_bytes before) c'
  pub size_is : size' ≡ counted size (map name_bytes before)

pub names_begun : {D : Type 0} (adds : Adding D) (w : World) (c : Journal) (size : ℕ) (d : D) → IsSound w → NamesPut adds w 0 c c size size d d
names_begun adds w c size d sound = record { before = []; left = w.names; are = refl; next = (read_in_order w sound).first_name; have = tt; given = given_none adds c d; size_is = refl }

-- the name that comes next
pub record NextName (left : List Name) (n : Name) : Type 0 where
  pub rest : List Name
  pub is : left ≡ n ∷ rest

pub next_name : (left : List Name) (n : Name) → slice_get left 0 ≡ Some n → NextName left n
next_name [] n some = absurd (never some)
  where
    never : None ≡ Some n → ⊥
    never e = cc
next_name (m ∷ rest) n some =
    let same : m ≡ n = cc in
    record { rest = rest; is = ap (λ (x : Name). x ∷ rest) same }

in_middle : (prefix : List Name) (n : Name) (back : List Name) → IsIn n (prefix ++ n ∷ back)
in_middle [] n back = inl refl
in_middle (m ∷ prefix) n back = inr (in_middle prefix n back)

-- a name that is found is one of the tree
pub name_in : {D : Type 0} (adds : Adding D) (w : World) (at : ℕ) (n : Name) (c c' : Journal) (size size' : ℕ) (old new : D) → NamesPut adds w at c c' size size' old new → any_after w at ≡ Some n → IsIn n w.names
name_in adds w at n c c' size size' old new p some =
    let x = next_name p.left n (sym p.next ∙ some) in
    subst (IsIn n) (sym (p.are ∙ ap (λ (l : List Name). p.before ++ l) x.is)) (in_middle p.before n x.rest)

-- one name more
pub name_put : {D : Type 0} (adds : Adding D) (w : World) (at : ℕ) (n : Name) (c c' c'' : Journal) (size size' size'' : ℕ) (bytes : Bytes) (old mid new : D) → IsSound w → size'' ≡ counted size' (bytes ∷ []) → NamesPut adds w at c c' size size' old mid → any_after w at ≡ Some n → bytes ≡ name_bytes n → HasNameSpelling n → PartsGiven (passage adds mid new) c' (bytes ∷ []) c'' → NamesPut adds w n.cookie c c'' size size'' old new
name_put adds w at n c c' c'' size size' size'' bytes old mid new sound sized so_far some is has one =
    let x = next_name so_far.left n (sym so_far.next ∙ some) in
    let are : w.names ≡ so_far.before ++ n ∷ x.rest = so_far.are ∙ ap (λ (l : List Name). so_far.before ++ l) x.is in
    record {
      before = so_far.before ++ n ∷ [];
      left = x.rest;
      are = are ∙ sym (append_assoc so_far.before (n ∷ []) x.rest);
      next = (read_in_order w sound).next_name so_far.before x.rest n are;
      have = all_push HasNameSpelling so_far.before n so_far.have has;
      given = subst (λ (l : List Bytes). PartsGiven (passage adds old new) c l c'') (sym (map_push name_bytes so_far.before n))
          (given_then adds c c' c'' (map name_bytes so_far.before) (name_bytes n ∷ []) old mid new so_far.given (subst (λ (b : Bytes). PartsGiven (passage adds mid new) c' (b ∷ []) c'') is one));
      size_is = sized ∙ ap (λ (b : Bytes). counted size' (b ∷ [])) is ∙ ap (λ (k : ℕ). counted k (name_bytes n ∷ [])) so_far.size_is
          ∙ sym (counted_then size (map name_bytes so_far.before) (name_bytes n ∷ [])) ∙ ap (counted size) (sym (map_push name_bytes so_far.before n));
    }

-- the next name isn't written
pub name_stop : {D : Type 0} (adds : Adding D) (w : World) (at : ℕ) (n : Name) (c c' c'' : Journal) (size size' : ℕ) (bytes : Bytes) (fault : WriteFault) (old mid new : D) → NamesPut adds w at c c' size size' old mid → any_after w at ≡ Some n → bytes ≡ name_bytes n → PartsEnd (passage adds mid new) c' (bytes ∷ []) (Err fault) c'' → PartsEnd (passage adds old new) c (map name_bytes w.names) (Err fault) c''
name_stop adds w at n c c' c'' size size' bytes fault old mid new so_far some is one =
    let x = next_name so_far.left n (sym so_far.next ∙ some) in
    let before : List Bytes = map name_bytes so_far.before in
    let rest : List Bytes = map name_bytes x.rest in
    let all : before ++ name_bytes n ∷ rest ≡ map name_bytes w.names = sym (map_append name_bytes so_far.before (n ∷ x.rest)) ∙ ap (map name_bytes) (sym (so_far.are ∙ ap (λ (l : List Name). so_far.before ++ l) x.is)) in
    ends_as adds c c'' ((before ++ name_bytes n ∷ []) ++ rest) (map name_bytes w.names) (Err fault) old new (append_assoc before (name_bytes n ∷ []) rest ∙ all)
    (ends_more adds c c'' (before ++ name_bytes n ∷ []) rest fault old new
    (ends_then adds c c' c'' before (name_bytes n ∷ []) (Err fault) old mid new so_far.given (subst (λ (b : Bytes). PartsEnd (passage adds mid new) c' (b ∷ []) (Err fault) c'') is one)))

-- an allocation fails for the next name
pub names_stop : {D : Type 0} (adds : Adding D) (w : World) (at : ℕ) (c c' : Journal) (size size' : ℕ) (old new : D) → NamesPut adds w at c c' size size' old new → PartsEnd (passage adds old new) c (map name_bytes w.names) (Err Memory) c'
names_stop adds w at c c' size size' old new p =
    ends_as adds c c' (map name_bytes p.before ++ map name_bytes p.left) (map name_bytes w.names) (Err Memory) old new (sym (map_append name_bytes p.before p.left) ∙ ap (map name_bytes) (sym p.are))
    (ends_stop adds c c' (map name_bytes p.before) (map name_bytes p.left) old new p.given)

no_name_left : (names : List Name) → slice_get names 0 ≡ None → names ≡ []
no_name_left [] is = refl
no_name_left (n ∷ names) is = absurd (never is)
  where
    never : Some n ≡ None → ⊥
    never e = cc

pub names_done : {D : Type 0} (adds : Adding D) (w : World) (at : ℕ) (c c' : Journal) (size size' : ℕ) (old new : D) → (p : NamesPut adds w at c c' size size' old new) → any_after w at ≡ None → p.before ≡ w.names
names_done adds w at c c' size size' old new p none =
    sym (p.are ∙ ap (λ (l : List Name). p.before ++ l) (no_name_left p.left (sym p.next ∙ none)) ∙ append-nil p.before)

later_cookie : (at : ℕ) (names : List Name) (n : Name) → find (λ n. nat_lt at n.cookie) names ≡ Some n → at < n.cookie
later_cookie at [] n is = absurd (never is)
  where
    never : None ≡ Some n → ⊥
    never e = cc
later_cookie at (m ∷ names) n is =
    elim (nat_lt at m.cookie) as (λ b. nat_lt at m.cookie ≡ b → cond b (Some m) (find (λ n. nat_lt at n.cookie) names) ≡ Some n → at < n.cookie) [
      | true ↦ λ test some.
          let less : at < m.cookie = grind (arith, nat_tests, test) in
          let same : m ≡ n = cc in
          subst (λ (x : Name). at < x.cookie) same less
      | false ↦ λ test some. later_cookie at names n some
    ] refl is

pub cookie_closer : {D : Type 0} (adds : Adding D) (w : World) (at : ℕ) (n : Name) (c c' : Journal) (size size' : ℕ) (old new : D) → IsSound w → NamesPut adds w at c c' size size' old new → any_after w at ≡ Some n → (at < n.cookie) × (n.cookie < 2 ^ 63)
cookie_closer adds w at n c c' size size' old new sound p some =
    let x = next_name p.left n (sym p.next ∙ some) in
    let below : n.cookie < w.next_cookie = rises_below (λ (m : Name). m.cookie) 3 w.next_cookie p.before n x.rest (subst (λ (l : List Name). Rises (λ m. m.cookie) 3 l w.next_cookie) (p.are ∙ ap (λ (l : List Name). p.before ++ l) x.is) sound.listed) in
    (later_cookie at w.names n some, (let most = sound.counted.cookies in omega (arith, below, most)))

pub on_ok : {X : Type 0} (r : Result X WriteFault) (P Q : Type 0) → OnOk r P → (P → Q) → OnOk r Q
on_ok (Ok x) P Q p on = on p
on_ok (Err e) P Q p on = tt

-- ---- a checkpoint

-- writing parts never stops because open files don't fit
pub fits_all_the_same : {D : Type 0} (adds : Adding D) (k l : Journal) (parts : List Bytes) (fault : WriteFault) (fits : Bool) (old new : D) → fits ≡ true → PartsEnd (passage adds old new) k parts (Err fault) l → IsUnfitUnless fits (Err fault)
fits_all_the_same adds k l parts Unfit fits old new is ended = absurd ended
fits_all_the_same adds k l parts Memory fits old new is ended = is
fits_all_the_same adds k l parts (Refused fault) fits old new is ended = is

-- writing its parts stopped
pub stopped_checkpoint : {D : Type 0} (adds : Adding D) (j k l : Journal) (parts : List Bytes) (fault : WriteFault) (old mid new : D) → BeginGives (passage adds old mid) j (Ok tt) k → PartsEnd (passage adds mid new) k parts (Err fault) l → BreaksOff (passage adds old new) j parts fault l
stopped_checkpoint adds j k l parts Unfit old mid new begun ended = absurd ended
stopped_checkpoint adds j k l parts Memory old mid new begun ended = inr (record { mid = mid; k = k; begun = begun; ended = ended })
stopped_checkpoint adds j k l parts (Refused fault) old mid new begun ended = inr (record { mid = mid; k = k; begun = begun; ended = ended })

-- all parts were written, and then it was ended, or not
pub ended_checkpoint : {D : Type 0} (adds : Adding D) (machine : ℕ) (j k l j' : Journal) (parts : List Bytes) (result : Result (Unit {0}) JournalFault) (old mid after new : D) → BeginGives (passage adds old mid) j (Ok tt) k → PartsGiven (passage adds mid after) k parts l → FinishGives (passage adds after new) machine l result j' → Ended (passage adds old new) machine j parts result j'
ended_checkpoint adds machine j k l j' parts result old mid after new begun given finished = record {
  mid = after;
  k = l;
  written = record { mid = mid; k = k; begun = begun; ended = given };
  finished = finished;
}
