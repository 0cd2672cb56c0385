-- The entries of a directory, one by one.
use Rattle.std.proofs.Common.{◌≡◌, ℕ, ◌+◌, ◌<◌, ◌≤◌, ◌^◌, Bool, true, false, ◌&&◌, cond, zero, suc, inl, inr, length, append-nil, refl, ap, sym, ◌∙◌, subst, List, nat_lt, arith}
use Rattle.std.specs.Prelude.{[], ◌∷◌, ◌==◌, Option, Some, None, IsSome, Result, Ok, Err, find, filter, map, take, bit_and, if◌then◌else◌}
use Rattle.std.specs.Option.{option_map, option_map_or}
use Rattle.std.proofs.lemmas.Bool.Decides.{nat_tests, Decides-eqb}
use Rattle.rpc_record.specs.Identity.{Identity}
use Rattle.acl_list.specs.declared.entry.Kind.{Kind}
use Rattle.acl_list.specs.declared.mask.TheConstants.{READ_ATTRIBUTES, READ_ACL}
use Rattle.acl_list.specs.declared.answer.Verdict.{Verdict}
use Rattle.acl_list.specs.declared.answer.Verdict.TheVariants as verdicts
use Rattle.acl_list.specs.Verdicts.{verdict}
use Rattle.acl_list.proofs.Covering.{granted_iff_covered}
use Rattle.xdr_wire.specs.Xdr.{Value}
use Rattle.xdr_wire.specs.Buffer.{Buffer}
use Rattle.xdr_wire.specs.declared.writer.Full.{Full}
use Rattle.nfs_types.specs.Common.{common}
use Rattle.nfs_types.specs.Attributes.{Facts}
use Rattle.nfs_types.specs.Forms.{trimmed}
use Rattle.nfs_types.specs.Sets.{has_number}
use Rattle.nfs_types.specs.declared.status.Status.{Status}
use Rattle.nfs_types.specs.declared.status.Status.TheVariants as statuses
use Rattle.nfs_ops.specs.Forms.{entry, readdir_args}
use Rattle.nfs_ops.specs.Parts.{listed_after, listed_at_most, listed_attributes}
use Rattle.nfs_ops.specs.Listing.{Judged, Listing, listing, listing_unless, first_refusal, judged_within, fitting, some_fit, those_fitting, readdir_limit}
use Rattle.nfs_ops.specs.declared.listing.ListFault.{ListFault}
use Rattle.nfs_ops.specs.declared.listing.ListFault.TheVariants.{Refused, TooSmall}
use Rattle.node_tree.specs.Judged as world
use Rattle.node_tree.specs.World.{World, Name, name_after}
use Rattle.node_tree.specs.Sound.{Rises, IsIn, IsSound}
use Rattle.access_rows.specs.Rows.{bits, has_any, governed, list_giving, entry_demands, granted_words, Demands}
use Rattle.access_rows.specs.declared.demand.Demand.{Demand}
use Rattle.access_rows.specs.declared.demand.Demand.TheVariants.{Bits}
use Rattle.access_rows.specs.declared.facts.Object.{Object}
use Rattle.access_guard.specs.Lists.{Lists, granted_at, verdict_of, names, sum_of}
use Rattle.access_guard.specs.Decisions.{decision, is_granted, answer}
use Rattle.compound_run.specs.Context.{Context}
use Rattle.compound_run.specs.Sight.{Sight}
use Rattle.compound_run.specs.Requested.{requested}
use Rattle.compound_run.specs.Rows.{object_of}
use Rattle.compound_run.specs.Values.{facts_at}
use Rattle.compound_run.specs.Operations.Readdir.{allows, first_refused, permitted, judgment, judgment_of, entry_of}
use Rattle.compound_run.specs.Operations.Readdir.{entry_by, judged_entry, names_above, judged_above, listed, refused_in}
use Rattle.compound_run.specs.Operations.Readdir.{fits_some}
use Rattle.compound_run.specs.internal.Readdir.{listing_of}
use Rattle.compound_run.specs.declared.context.Context as code
use Rattle.compound_run.specs.declared.realm.Realm as realms
use Rattle.compound_run.specs.declared.filehandles.FileHandles.{FileHandles}
use Rattle.nfs_ops.specs.ListingSteps as steps
use Rattle.nfs_ops.specs.Rows.{row}
use Rattle.nfs_ops.specs.declared.OpKind.TheVariants as kinds
use Rattle.compound_run.specs.Asking.{sight_of}
use Rattle.compound_run.specs.Questions.{all_granted, demand_lines}
use Rattle.compound_run.specs.Runs.{spelled, waits}
use Rattle.compound_run.specs.Views.{OperationGives, context_at, holding, stage, sense}
use Rattle.compound_run.specs.internal.Listed.{IsNext, IsNextOf, PutsEntry, refused_of, written_entry}
use Rattle.compound_run.proofs.AskedAfter.{row_refuses_always}

-- ---- the next entry is the first of those above the cookie

abbrev in_directory : ℕ → Name → Bool
in_directory directory n = n.directory == directory

abbrev is_above : ℕ → Name → Bool
is_above cookie n = nat_lt cookie n.cookie

abbrev is_next : ℕ → ℕ → Name → Bool
is_next directory cookie n = in_directory directory n && is_above cookie n

abbrev above : ℕ → ℕ → List Name → List Name
above directory cookie all = filter (is_above cookie) (filter (in_directory directory) all)

-- names that rise from above the cookie are all above it
all_above : (directory cookie low high : ℕ) (all : List Name) → cookie < low → Rises (λ n. n.cookie) low all high → above directory cookie all ≡ filter (in_directory directory) all
all_above directory cookie low high [] less rises = refl
all_above directory cookie low high (n ∷ all) less rises =
    let least : low ≤ n.cookie = rises.0 in
    let rest = all_above directory cookie (n.cookie + 1) high all (omega (arith, less, least)) rises.1 in
    let test : nat_lt cookie n.cookie ≡ true = grind (arith, nat_tests, less, least) in
    elim (in_directory directory n) as (λ b. filter (is_above cookie) (cond b (n ∷ filter (in_directory directory) all) (filter (in_directory directory) all)) ≡ cond b (n ∷ filter (in_directory directory) all) (filter (in_directory directory) all)) [
      | true ↦ rw test (ap (λ l. n ∷ l) rest)
      | false ↦ rest
    ]

found_above : (directory cookie : ℕ) (all : List Name) (n : Name) → find (is_next directory cookie) all ≡ Some n → cookie < n.cookie
found_above directory cookie [] n found = cc
found_above directory cookie (m ∷ all) n found = of (in_directory directory m) (nat_lt cookie m.cookie) refl (λ at. found_above directory cookie all n at) found
  where
    of : (a b : Bool) → nat_lt cookie m.cookie ≡ b → (find (is_next directory cookie) all ≡ Some n → cookie < n.cookie) → cond (a && b) (Some m) (find (is_next directory cookie) all) ≡ Some n → cookie < n.cookie
    of true true test more at = let same : m ≡ n = cc in subst (λ (x : Name). cookie < x.cookie) same (grind (arith, nat_tests, test))
    of true false test more at = more at
    of false b test more at = more at

found_in : (directory cookie : ℕ) (all : List Name) (n : Name) → find (is_next directory cookie) all ≡ Some n → IsIn n all
found_in directory cookie [] n found = cc
found_in directory cookie (m ∷ all) n found = of (is_next directory cookie m) (λ at. found_in directory cookie all n at) found
  where
    of : (b : Bool) → (find (is_next directory cookie) all ≡ Some n → IsIn n all) → cond b (Some m) (find (is_next directory cookie) all) ≡ Some n → IsIn n (m ∷ all)
    of true more at = let same : n ≡ m = cc in inl same
    of false more at = inr (more at)

-- no name is too long to be encoded
pub short_name : (w : World) (directory cookie : ℕ) (n : Name) → IsSound w → name_after w directory cookie ≡ Some n → length n.name ≤ 0xffff_ffff
short_name w directory cookie n sound found =
    let short : length n.name ≤ 255 = sound.limited.short n (found_in directory cookie w.names n found) in
    omega (arith, short)

pub none_above : (directory cookie : ℕ) (all : List Name) → find (is_next directory cookie) all ≡ None → above directory cookie all ≡ []
none_above directory cookie [] none = refl
none_above directory cookie (m ∷ all) none = of (in_directory directory m) (nat_lt cookie m.cookie) refl (λ at. none_above directory cookie all at) none
  where
    of : (a b : Bool) → nat_lt cookie m.cookie ≡ b → (find (is_next directory cookie) all ≡ None → above directory cookie all ≡ []) → cond (a && b) (Some m) (find (is_next directory cookie) all) ≡ None
        → filter (is_above cookie) (cond a (m ∷ filter (in_directory directory) all) (filter (in_directory directory) all)) ≡ []
    of true true test more at = cc
    of true false test more at = rw test (more at)
    of false b test more at = more at

pub next_above : (directory cookie low high : ℕ) (all : List Name) (n : Name) → Rises (λ n. n.cookie) low all high → find (is_next directory cookie) all ≡ Some n
    → above directory cookie all ≡ n ∷ above directory n.cookie all
next_above directory cookie low high [] n rises found = cc
next_above directory cookie low high (m ∷ all) n rises found =
    of (in_directory directory m) (nat_lt cookie m.cookie) refl (λ at. next_above directory cookie (m.cookie + 1) high all n rises.1 at) found
  where
    self : nat_lt m.cookie m.cookie ≡ false
    self = grind (arith, nat_tests)

    of : (a b : Bool) → nat_lt cookie m.cookie ≡ b → (find (is_next directory cookie) all ≡ Some n → above directory cookie all ≡ n ∷ above directory n.cookie all) → cond (a && b) (Some m) (find (is_next directory cookie) all) ≡ Some n
        → filter (is_above cookie) (cond a (m ∷ filter (in_directory directory) all) (filter (in_directory directory) all)) ≡ n ∷ filter (is_above n.cookie) (cond a (m ∷ filter (in_directory directory) all) (filter (in_directory directory) all))
    of true true test more at =
        let same : m ≡ n = cc in
        let below : cookie < m.cookie = grind (arith, nat_tests, test) in
        let rest = all_above directory cookie (m.cookie + 1) high all (omega (arith, below)) rises.1 in
        let beyond = all_above directory m.cookie (m.cookie + 1) high all (omega arith) rises.1 in
        subst (λ (x : Name). filter (is_above cookie) (m ∷ filter (in_directory directory) all) ≡ x ∷ filter (is_above x.cookie) (m ∷ filter (in_directory directory) all)) same
        (rw test (rw self (ap (λ l. m ∷ l) (rest ∙ sym beyond))))
    of true false test more at =
        let over : cookie < n.cookie = found_above directory cookie all n at in
        let low : nat_lt n.cookie m.cookie ≡ false = grind (arith, nat_tests, test, over) in
        rw test (rw low (more at))
    of false b test more at = more at

-- ---- the mask bits that the access control list (ACL) of the entry's object grants

decides_alike : (number mask : ℕ) (v : Verdict) (b : Bool) → (v ≡ verdicts.Granted → b ≡ true) → (b ≡ true → v ≡ verdicts.Granted) → b ≡ is_granted (answer number mask v)
decides_alike number mask verdicts.Granted b granted true_is = granted refl
decides_alike number mask (verdicts.Denied index) true granted true_is = let is : verdicts.Denied index ≡ verdicts.Granted = true_is refl in cc
decides_alike number mask (verdicts.Denied index) false granted true_is = refl
decides_alike number mask (verdicts.Missing bit) true granted true_is = let is : verdicts.Missing bit ≡ verdicts.Granted = true_is refl in cc
decides_alike number mask (verdicts.Missing bit) false granted true_is = refl

grants_of : (o : Option world.Judged) (caller : Identity) (number mask : ℕ) → mask < 2 ^ 32 → bit_and mask 0 == mask ≡ false
    → (bit_and mask (option_map_or (λ j. (sum_of j caller).granted) o 0) == mask) ≡ is_granted (answer number mask (verdict_of o caller mask))
grants_of None caller number mask fits some = some
grants_of (Some j) caller number mask fits some =
    let iff = granted_iff_covered (names j caller) j.list mask fits in
    decides_alike number mask (verdict (names j caller) j.list mask) (bit_and mask (sum_of j caller).granted == mask)
    (λ h. (Decides-eqb _ _).1 (iff.0 h)) (λ h. iff.1 ((Decides-eqb _ _).0 h))

pub grants_attributes : (lists : Lists) (caller : Identity) (number : ℕ) → (bit_and READ_ATTRIBUTES (granted_at lists caller number) == READ_ATTRIBUTES) ≡ allows lists caller number READ_ATTRIBUTES
grants_attributes lists caller number = grants_of (lists number) caller number READ_ATTRIBUTES (omega arith) refl

pub grants_list : (lists : Lists) (caller : Identity) (number : ℕ) → (bit_and READ_ACL (granted_at lists caller number) == READ_ACL) ≡ allows lists caller number READ_ACL
grants_list lists caller number = grants_of (lists number) caller number READ_ACL (omega arith) refl

-- ---- the first demand that is refused

two : (a l : Bool) (d e : Demand) → refused_of a l (Some d ∷ Some e ∷ []) ≡ cond a (cond l None (Some e)) (Some d)
two true l d e = refl
two false l d e = refl

one : (a l : Bool) (d : Demand) → refused_of a l (Some d ∷ None ∷ []) ≡ cond a None (Some d)
one true true d = refl
one true false d = refl
one false l d = refl

other : (a l : Bool) (e : Demand) → refused_of a l (None ∷ Some e ∷ []) ≡ cond l None (Some e)
other true l e = refl
other false l e = refl

neither : (a l : Bool) → refused_of a l (None ∷ None ∷ []) ≡ None
neither true true = refl
neither true false = refl
neither false true = refl
neither false false = refl

module _ (lists : Lists) (caller : Identity) (child : Object) where
  abbrev attributes : Bool
  attributes = allows lists caller child.number READ_ATTRIBUTES

  abbrev list : Bool
  list = allows lists caller child.number READ_ACL

  pub refused_is : (asked : List ℕ) → refused_of attributes list (entry_demands asked (Some child)) ≡ first_refused lists caller (entry_demands asked (Some child))
  refused_is asked = of (has_any asked governed) (has_any asked list_giving)
    where
      of : (g h : Bool) → refused_of attributes list (bits (Some child) (if g then READ_ATTRIBUTES else 0) ∷ bits (Some child) (if h then READ_ACL else 0) ∷ [])
          ≡ first_refused lists caller (bits (Some child) (if g then READ_ATTRIBUTES else 0) ∷ bits (Some child) (if h then READ_ACL else 0) ∷ [])
      of true true = two attributes list (Bits child.number READ_ATTRIBUTES) (Bits child.number READ_ACL)
      of true false = one attributes list (Bits child.number READ_ATTRIBUTES)
      of false true = other attributes list (Bits child.number READ_ACL)
      of false false = neither attributes list

-- ---- the attributes of an entry, as the code finds them

module _ (lists : Lists) (caller : Identity) (child : Object) (asked : List ℕ) (a l : Bool) (demands : Demands) (r : Option Demand) where
  first_found : a ≡ (bit_and READ_ATTRIBUTES (granted_at lists caller child.number) == READ_ATTRIBUTES) → l ≡ (bit_and READ_ACL (granted_at lists caller child.number) == READ_ACL)
      → demands ≡ entry_demands asked (Some child) → r ≡ refused_of a l demands → r ≡ first_refused lists caller (entry_demands asked (Some child))
  first_found attributes list asks is =
      is ∙ (λ i. refused_of ((attributes ∙ grants_attributes lists caller child.number) i) ((list ∙ grants_list lists caller child.number) i) (asks i)) ∙ refused_is lists caller child asked

  pub judged_all : a ≡ (bit_and READ_ATTRIBUTES (granted_at lists caller child.number) == READ_ATTRIBUTES) → l ≡ (bit_and READ_ACL (granted_at lists caller child.number) == READ_ACL)
      → demands ≡ entry_demands asked (Some child) → r ≡ refused_of a l demands → r ≡ None
      → Ok (statuses.Ok, asked) ≡ judgment_of lists caller asked child.number (Some child)
  judged_all attributes list asks is none = ap (judgment lists caller asked child.number) (sym none ∙ first_found attributes list asks is)

  refusal_gives : (d : Demand) → r ≡ Some d → r ≡ first_refused lists caller (entry_demands asked (Some child)) → judgment lists caller asked child.number (Some d) ≡ judgment_of lists caller asked child.number (Some child)
  refusal_gives d some first = ap (judgment lists caller asked child.number) (sym some ∙ first)

-- if both permissions are granted, no demand is refused, whatever is requested
pub judged_free : (lists : Lists) (caller : Identity) (child : Object) (asked : List ℕ) (a l : Bool) → a ≡ (bit_and READ_ATTRIBUTES (granted_at lists caller child.number) == READ_ATTRIBUTES)
    → l ≡ (bit_and READ_ACL (granted_at lists caller child.number) == READ_ACL) → a ≡ true → l ≡ true → Ok (statuses.Ok, asked) ≡ judgment_of lists caller asked child.number (Some child)
judged_free lists caller child asked a l attributes list has_a has_l =
    judged_all lists caller child asked true true (entry_demands asked (Some child)) None (sym has_a ∙ attributes) (sym has_l ∙ list) refl refl refl

module _ (lists : Lists) (caller : Identity) (child : Object) (asked : List ℕ) (a l : Bool) (demands : Demands) (r : Option Demand) (d : Demand) where
  pub judged_refused : a ≡ (bit_and READ_ATTRIBUTES (granted_at lists caller child.number) == READ_ATTRIBUTES) → l ≡ (bit_and READ_ACL (granted_at lists caller child.number) == READ_ACL)
      → demands ≡ entry_demands asked (Some child) → r ≡ refused_of a l demands → r ≡ Some d → has_number asked 11 ≡ false
      → Err d ≡ judgment_of lists caller asked child.number (Some child)
  judged_refused attributes list asks is some never =
      let given : Err d ≡ judgment lists caller asked child.number (Some d) = rw never refl in
      given ∙ refusal_gives lists caller child asked a l demands r d some (first_found lists caller child asked a l demands r attributes list asks is)

  pub judged_permitted : (set : List ℕ) → a ≡ (bit_and READ_ATTRIBUTES (granted_at lists caller child.number) == READ_ATTRIBUTES) → l ≡ (bit_and READ_ACL (granted_at lists caller child.number) == READ_ACL)
      → demands ≡ entry_demands asked (Some child) → r ≡ refused_of a l demands → r ≡ Some d → has_number asked 11 ≡ true → set ≡ trimmed (common asked (granted_words a l))
      → Ok (statuses.Access, set) ≡ judgment_of lists caller asked child.number (Some child)
  judged_permitted set attributes list asks is some error given =
      let words : set ≡ permitted lists caller child.number asked = given ∙ (λ i. trimmed (common asked (granted_words ((attributes ∙ grants_attributes lists caller child.number) i) ((list ∙ grants_list lists caller child.number) i)))) in
      let holds : Ok (statuses.Access, permitted lists caller child.number asked) ≡ judgment lists caller asked child.number (Some d) = rw error refl in
      ap (λ x. Ok (statuses.Access, x)) words ∙ holds ∙ refusal_gives lists caller child asked a l demands r d some (first_found lists caller child asked a l demands r attributes list asks is)

-- ---- a demand that refuses an entry isn't granted

first_is_refused : (lists : Lists) (caller : Identity) (demands : Demands) (d : Demand) → first_refused lists caller demands ≡ Some d → is_granted (decision lists caller d) ≡ false
first_is_refused lists caller [] d h = cc
first_is_refused lists caller (None ∷ demands) d h = first_is_refused lists caller demands d h
first_is_refused lists caller (Some e ∷ demands) d h = of (is_granted (decision lists caller e)) refl (λ at. first_is_refused lists caller demands d at) h
  where
    of : (b : Bool) → is_granted (decision lists caller e) ≡ b → (first_refused lists caller demands ≡ Some d → is_granted (decision lists caller d) ≡ false) → cond b (first_refused lists caller demands) (Some e) ≡ Some d → is_granted (decision lists caller d) ≡ false
    of true is more h = more h
    of false is more h = let same : e ≡ d = cc in subst (λ (x : Demand). is_granted (decision lists caller x) ≡ false) same is

judgment_refuses : (lists : Lists) (caller : Identity) (asked : List ℕ) (number : ℕ) (o : Option Demand) (d : Demand) → judgment lists caller asked number o ≡ Err d → o ≡ Some d
judgment_refuses lists caller asked number None d h = cc
judgment_refuses lists caller asked number (Some e) d h = of (has_number asked 11) h
  where
    given : Result (Status × List ℕ) Demand
    given = Ok (statuses.Access, permitted lists caller number asked)

    of : (b : Bool) → cond b given (Err e) ≡ Err d → Some e ≡ Some d
    of true h = cc
    of false h = cc

entry_refuses : (c : Context) (s : Sight) (n : Name) (j : Result (Status × List ℕ) Demand) (d : Demand) → entry_by c s n j ≡ Err d → j ≡ Err d
entry_refuses c s n (Ok (error, set)) d h = cc
entry_refuses c s n (Err e) d h = let same : e ≡ d = cc in ap (λ x. Err x) same

entry_is_refused : (c : Context) (asked : List ℕ) (s : Sight) (n : Name) (d : Demand) → judged_entry c asked s n ≡ Err d → is_granted (decision s.lists c.caller d) ≡ false
entry_is_refused c asked s n d h =
    first_is_refused s.lists c.caller (entry_demands asked (object_of s (Some n.child))) d
    (judgment_refuses s.lists c.caller asked n.child _ d (entry_refuses c s n _ d h))

among : (c : Context) (asked : List ℕ) (s : Sight) (d : Demand) (k : ℕ) (all : List Name) → first_refusal (take k (map (judged_entry c asked s) all)) ≡ Some d → is_granted (decision s.lists c.caller d) ≡ false
among c asked s d zero all h = cc
among c asked s d (suc k) [] h = cc
among c asked s d (suc k) (n ∷ all) h = of (judged_entry c asked s n) refl (λ at. among c asked s d k all at) h
  where
    of : (j : Judged Demand) → judged_entry c asked s n ≡ j → (first_refusal (take k (map (judged_entry c asked s) all)) ≡ Some d → is_granted (decision s.lists c.caller d) ≡ false) → first_refusal (j ∷ take k (map (judged_entry c asked s) all)) ≡ Some d → is_granted (decision s.lists c.caller d) ≡ false
    of (Ok e) is more h = more h
    of (Err e) is more h = let same : e ≡ d = cc in entry_is_refused c asked s n d (is ∙ ap (λ x. Err x) same)

listing_refuses : {R : Type 0} (limit : ℕ) (all : List (Judged R)) (o : Option R) (r : R) → listing_unless limit all o ≡ Err (Refused r) → o ≡ Some r
listing_refuses limit all (Some x) r h = let same : x ≡ r = cc in ap (λ y. Some y) same
listing_refuses limit all None r h = of (some_fit limit all) h
  where
    of : (b : Bool) → cond b (Ok (those_fitting limit all)) (Err TooSmall) ≡ Err (Refused r) → None ≡ Some r
    of true h = cc
    of false h = cc

pub what_refuses : (c : Context) (v : Value readdir_args) (directory : ℕ) (s : Sight) (d : Demand) → listed c v directory s ≡ Err (Refused d) → is_granted (decision s.lists c.caller d) ≡ false
unfolding listed listing
what_refuses c v directory s d h =
    let limit = readdir_limit (listed_at_most v) c.room in
    let all = judged_above c (requested c (listed_attributes v)) directory (listed_after v) s in
    among c (requested c (listed_attributes v)) s d (1 + fitting limit all) (names_above s directory (listed_after v)) (listing_refuses limit all (first_refusal (judged_within limit all)) d h)

-- ---- the bytes that the code writes

-- the facts of the entry's object are those of the attributes requested
pub next_listed : (c : Context) (s : Sight) (m n : Name) (number : ℕ) (error : Status) (set : List ℕ) (f : Facts) (old new : Buffer) (result : Result (Unit {0}) Full) → m ≡ n → number ≡ m.child
    → f ≡ facts_at s number error set → PutsEntry (written_entry c.book f m set) old new result → PutsEntry (entry_of c s n error set) old new result
next_listed c s m n number error set f old new result same child decides_alike puts =
    subst (λ (x : Name). PutsEntry (entry_of c s x error set) old new result) same
    (subst (λ (g : Facts). PutsEntry (written_entry c.book g m set) old new result) (decides_alike ∙ ap (λ k. facts_at s k error set) child) puts)

-- an object that exists, by its number
pub object_there : (s : Sight) (number : ℕ) → IsSome (s.kinds number) → (child : Object) × (object_of s (Some number) ≡ Some child)
object_there s number some = of (s.kinds number) refl some
  where
    of : (k : Option Kind) → s.kinds number ≡ k → IsSome k → (child : Object) × (object_of s (Some number) ≡ Some child)
    of None is some = cc
    of (Some kind) is some = (record { number = number; kind = kind }, ap (option_map (λ (kind : Kind). let o : Object = record { number = number; kind = kind } in o)) is)

pub object_is_numbered : (s : Sight) (n : ℕ) (o : Object) → object_of s (Some n) ≡ Some o → o.number ≡ n
object_is_numbered s n o is = of (s.kinds n) is
  where
    of : (k : Option Kind) → option_map (λ kind. record { number = n; kind = kind }) k ≡ Some o → o.number ≡ n
    of None is = cc
    of (Some kind) is = let same : record { number = n; kind = kind } ≡ o = cc in sym (ap (λ (x : Object). x.number) same)

-- in a sound world the names above its cookie are the remaining names
pub entry_is_next : {A : Type 0} (e : realms.Realm A) (directory cookie next number : ℕ) (n : IsNextOf (sight_of e) directory cookie (name_after e.tree.world directory cookie) next number) → IsSound e.tree.world
    → IsNext (sight_of e) directory cookie (name_after e.tree.world directory cookie) next n.child
entry_is_next e directory cookie next number n sound =
    let s = sight_of e in
    let w = e.tree.world in record {
      name = n.name;
      is = n.is;
      by = n.by;
      object = subst (λ (k : ℕ). object_of s (Some k) ≡ Some n.child) n.numbered n.there;
      above = subst (λ (x : ℕ). names_above s directory cookie ≡ n.name ∷ names_above s directory x) (sym n.by) (next_above directory cookie 3 w.next_cookie w.names n.name sound.listed n.is);
    }

-- the next entry is the first of the remaining ones, as it is judged
pub next_judged : (c : Context) (asked : List ℕ) (s : Sight) (directory cookie : ℕ) (found : Option Name) (next : ℕ) (child : Object) (j : Result (Status × List ℕ) Demand) (is : IsNext s directory cookie found next child)
    → j ≡ judgment_of s.lists c.caller asked child.number (Some child) → judged_above c asked directory cookie s ≡ entry_by c s is.name j ∷ judged_above c asked directory next s
next_judged c asked s directory cookie found next child j is judged =
    let number : child.number ≡ is.name.child = object_is_numbered s is.name.child child is.object in
    let holds : j ≡ judgment_of s.lists c.caller asked is.name.child (object_of s (Some is.name.child)) =
    judged ∙ (λ i. judgment_of s.lists c.caller asked (number i) (sym is.object i)) in
    ap (map (judged_entry c asked s)) is.above ∙ ap (λ x. entry_by c s is.name x ∷ judged_above c asked directory next s) (sym holds)

-- the same of an entry by the number of its object, in a sound world
pub next_entry_judged : {A : Type 0} (e : realms.Realm A) (c : code.Context) (asked : List ℕ) (directory cookie next number : ℕ) (n : IsNextOf (sight_of e) directory cookie (name_after e.tree.world directory cookie) next number)
    (j : Result (Status × List ℕ) Demand) → IsSound e.tree.world → j ≡ judgment_of (sight_of e).lists (context_at e c).caller asked n.child.number (Some n.child)
    → judged_above (context_at e c) asked directory cookie (sight_of e) ≡ entry_by (context_at e c) (sight_of e) n.name j ∷ judged_above (context_at e c) asked directory next (sight_of e)
unfolding entry_is_next
next_entry_judged e c asked directory cookie next number n j sound judged =
    next_judged (context_at e c) asked (sight_of e) directory cookie (name_after e.tree.world directory cookie) next n.child j (entry_is_next e directory cookie next number n sound) judged

-- judging doesn't change the attributes of an entry
pub moved_entry : {A : Type 0} (c : code.Context) (old new : realms.Realm A) (n : Name) (error : Status) (set : List ℕ) (P : Value entry → Type 0) → new ≡ old
    → P (entry_of (context_at new c) (sight_of new) n error set) → P (entry_of (context_at old c) (sight_of old) n error set)
moved_entry c old new n error set P same p = subst P (ap (λ e. entry_of (context_at e c) (sight_of e) n error set) same) p

-- ---- the result

module _ {A : Type 0} (room : ℕ) (c : Context) (h : FileHandles) (v : Value readdir_args) (directory : ℕ) (e : realms.Realm A) (before after : Buffer) where
  abbrev outcome : Result Listing (ListFault Demand)
  outcome = listed c v directory (sight_of e)

  listing_gives : steps.Lists outcome room before after → OperationGives (sense false (listing_of v directory c h) waits) room h (stage e before) (Ok h) (stage e after)
  unfolding spelled
  listing_gives lists = record {
    answered = record {
      outcome = rw lists.is refl;
      log = rw lists.is (ap (λ l. record e.tree.log { held = l }) (sym (append-nil e.tree.log.held)));
      trail_stays = λ d. refl;
      total_stays = λ d. refl;
      realm = refl;
      handles = refl;
      realm_stays = tt;
      handles_stay = tt;
      settings = refl;
    };
    written = rw lists.is lists.written;
    within = lists.within;
    unwritten = tt;
  }

  too_small_gives : outcome ≡ Err TooSmall → OperationGives (sense false (listing_of v directory c h) waits) room h (stage e before) (Err statuses.TooSmall) (stage e before)
  too_small_gives small = record {
    answered = record {
      outcome = rw small refl;
      log = rw small (ap (λ l. record e.tree.log { held = l }) (sym (append-nil e.tree.log.held)));
      trail_stays = λ d. refl;
      total_stays = λ d. refl;
      realm = tt;
      handles = tt;
      realm_stays = refl;
      handles_stay = refl;
      settings = refl;
    };
    written = tt;
    within = tt;
    unwritten = refl;
  }

  pub list_given : (new : realms.Realm A) → new ≡ e → steps.Lists outcome room before after → OperationGives (sense false (listing_of v directory c h) waits) room h (stage e before) (Ok h) (stage new after)
  list_given new same lists = subst (λ (x : realms.Realm A). OperationGives (sense false (listing_of v directory c h) waits) room h (stage e before) (Ok h) (stage x after)) (sym same) (listing_gives lists)

  pub list_small : (new : realms.Realm A) → new ≡ e → outcome ≡ Err TooSmall → after ≡ before → OperationGives (sense false (listing_of v directory c h) waits) room h (stage e before) (Err statuses.TooSmall) (stage new after)
  list_small new same small stays =
      subst (λ (x : realms.Realm A). OperationGives (sense false (listing_of v directory c h) waits) room h (stage e before) (Err statuses.TooSmall) (stage x after)) (sym same)
      (subst (λ (b : Buffer). OperationGives (sense false (listing_of v directory c h) waits) room h (stage e before) (Err statuses.TooSmall) (stage e b)) (sym stays) (too_small_gives small))

  pub acl_refused : (d : Demand) (new : realms.Realm A) → outcome ≡ Err (Refused d) → after ≡ before → new ≡ holding (demand_lines (world.judged_of e.tree.world) c.caller (row kinds.ReadDir).number (Some d ∷ [])) e → OperationGives (sense false (listing_of v directory c h) waits) room h (stage e before) (Err statuses.Access) (stage new after)
  acl_refused d new refused stays is =
      let not : is_granted (decision (sight_of e).lists c.caller d) ≡ false = what_refuses c v directory (sight_of e) d refused in
      subst (λ (b : Buffer). OperationGives (sense false (listing_of v directory c h) waits) room h (stage e before) (Err statuses.Access) (stage new b)) (sym stays)
      (row_refuses_always room (listing_of v directory c h) (λ s. refused_in (listed c v directory s) ∷ []) (fits_some c v directory ∷ []) e h before new refl
      (ap (λ t. all_granted (sight_of e).lists c.caller (refused_in t ∷ [])) refused ∙ ap (λ b. b && true) not)
      (is ∙ ap (λ t. holding (demand_lines (world.judged_of e.tree.world) c.caller (row kinds.ReadDir).number (refused_in t ∷ [])) e) (sym refused)))
