-- The attributes in the entries that READDIR returns, and when an entry refuses it.
use Rattle.std.proofs.Common.{◌≡◌, ◌⊎◌, ℕ, Bool, true, false, ◌&&◌, ◌||◌, cond, zero, suc, inl, inr, List, refl, sym, ap, ◌∙◌, subst}
use Rattle.std.specs.Prelude.{[], ◌∷◌, ◌++◌, Option, Some, None, Result, Ok, Err, IsSome, map, filter, take, nat_lt, ◌==◌}
use Rattle.std.specs.List.{AllByRecursion, list_any}
use Rattle.std.specs.Option.{option_map}
use Rattle.std.proofs.lemmas.List.{map-append}
use Rattle.xdr_wire.specs.Xdr.{Value}
use Rattle.rpc_record.specs.Identity.{Identity}
use Rattle.acl_list.specs.declared.entry.Kind.{Kind}
use Rattle.acl_list.specs.declared.mask.TheConstants.{READ_ATTRIBUTES, READ_ACL}
use Rattle.nfs_types.specs.Attributes.{all_words}
use Rattle.nfs_types.specs.Given.{given_set}
use Rattle.nfs_types.specs.Sets.{has_number}
use Rattle.nfs_types.specs.declared.status.Status.{Status}
use Rattle.nfs_types.specs.declared.status.Status.TheVariants as statuses
use Rattle.nfs_types.proofs.Tables.{shared}
use Rattle.nfs_ops.specs.Forms.{entry, readdir_args}
use Rattle.nfs_ops.specs.Listing.{Judged, Listing, listing, listing_unless, given_before, fitting, some_fit, those_fitting, first_refusal, judged_within, readdir_limit, IsListing}
use Rattle.nfs_ops.specs.Operations.{Known}
use Rattle.nfs_ops.specs.Parts.{listed_after, listed_at_most, listed_attributes}
use Rattle.nfs_ops.specs.Results.{Outcome}
use Rattle.nfs_ops.specs.declared.listing.ListFault.{ListFault}
use Rattle.nfs_ops.specs.declared.listing.ListFault.TheVariants.{Refused, TooSmall}
use Rattle.nfs_ops.specs.declared.OpKind.TheVariants as kinds
use Rattle.nfs_ops.proofs.Listings.{refused_listing, listing_is}
use Rattle.node_tree.specs.World.{World, Name, kind_of, names_in}
use Rattle.node_tree.specs.Sound.{IsIn, IsSound}
use Rattle.node_tree.proofs.Names.{from_filter}
use Rattle.access_rows.specs.Rows.{bits, has_any, governed, list_giving, entry_demands, first_demands, granted_words}
use Rattle.access_rows.specs.declared.demand.Demand.{Demand}
use Rattle.access_rows.specs.declared.demand.Demand.TheVariants.{Bits}
use Rattle.access_guard.specs.Lists.{Lists}
use Rattle.compound_run.specs.Realm.{Realm}
use Rattle.compound_run.specs.Context.{Context, Handles}
use Rattle.compound_run.specs.Sight.{Sight, whole}
use Rattle.compound_run.specs.Faults.{IsFault, MayFault}
use Rattle.compound_run.specs.Questions.{Holds, Valid, Row, failure, all_granted, result_unless}
use Rattle.compound_run.specs.Rows.{object_of, first_facts, first_row}
use Rattle.compound_run.specs.Meaning.{here}
use Rattle.compound_run.specs.Operations.{meaning}
use Rattle.compound_run.specs.Operations.Readdir.{allows, first_refused, permitted, judgment, entry_of, entry_by, judged_entry, judged_above, names_above, listed, refused_in, given_in, refuses_none, fits_some}
use Rattle.compound_run.specs.Requested.{requested}
use Rattle.compound_run.specs.Runs.{outcome}
use Rattle.compound_run.specs.Exact.{ArePassed, FailsFirst}
use Rattle.compound_laws.specs.EntriesExact.{ungoverned, IsExact, AreExact, GivesExactly, before_row, IsUnlisted, MeetsRefused}
use Rattle.compound_run.proofs.Exactly.{refused_by_row, by_row}
use Rattle.compound_run.proofs.Listing.{what_refuses}
use Rattle.compound_laws.proofs.Tested.{all_pass, all_fail}

-- ---- attributes in sets

each : (P Q : ℕ → Type 0) (ns : List ℕ) → ((n : ℕ) → P n → Q n) → AllByRecursion P ns → AllByRecursion Q ns
each P Q [] f all = tt
each P Q (n ∷ ns) f all = (f n all.0, each P Q ns f all.1)

and_true : (b : Bool) → b && true ≡ b
and_true true = refl
and_true false = refl

or_right : (a b : Bool) → b ≡ true → a || b ≡ true
or_right true b is = refl
or_right false b is = is

-- if a number of the list passes, some number of it passes
any_of : (p : ℕ → Bool) (ns : List ℕ) → AllByRecursion (λ n. p n ≡ true → list_any p ns ≡ true) ns
any_of p [] = tt
any_of p (n ∷ ns) = (λ is. rw is refl, each (λ m. p m ≡ true → list_any p ns ≡ true) (λ m. p m ≡ true → p n || list_any p ns ≡ true) ns (λ m f is. or_right (p n) (list_any p ns) (f is)) (any_of p ns))

abbrev IsSupported : ℕ → Type 0
IsSupported a = has_number all_words a ≡ true

-- each of these is supported
are_supported : AllByRecursion IsSupported governed
unfolding has_number
are_supported = all_pass (λ n. has_number all_words n) governed refl

lists_are_supported : AllByRecursion IsSupported list_giving
unfolding has_number
lists_are_supported = all_pass (λ n. has_number all_words n) list_giving refl

others_are_supported : AllByRecursion IsSupported ungoverned
unfolding has_number
others_are_supported = all_pass (λ n. has_number all_words n) ungoverned refl

-- the governed attributes among the permitted ones
governed_words : (a l : Bool) → AllByRecursion (λ n. has_number (granted_words a l) n ≡ a) governed
unfolding has_number
governed_words true true = all_pass (λ n. has_number (granted_words true true) n) governed refl
governed_words true false = all_pass (λ n. has_number (granted_words true false) n) governed refl
governed_words false true = all_fail (λ n. has_number (granted_words false true) n) governed refl
governed_words false false = all_fail (λ n. has_number (granted_words false false) n) governed refl

-- acl, dacl and sacl among the permitted ones
list_words : (a l : Bool) → AllByRecursion (λ n. has_number (granted_words a l) n ≡ l) list_giving
unfolding has_number
list_words true true = all_pass (λ n. has_number (granted_words true true) n) list_giving refl
list_words true false = all_fail (λ n. has_number (granted_words true false) n) list_giving refl
list_words false true = all_pass (λ n. has_number (granted_words false true) n) list_giving refl
list_words false false = all_fail (λ n. has_number (granted_words false false) n) list_giving refl

-- the attributes that everyone can read among the permitted ones
other_words : (a l : Bool) → AllByRecursion (λ n. has_number (granted_words a l) n ≡ true) ungoverned
unfolding has_number
other_words true true = all_pass (λ n. has_number (granted_words true true) n) ungoverned refl
other_words true false = all_pass (λ n. has_number (granted_words true false) n) ungoverned refl
other_words false true = all_pass (λ n. has_number (granted_words false true) n) ungoverned refl
other_words false false = all_pass (λ n. has_number (granted_words false false) n) ungoverned refl

given_all : (set : List ℕ) (a : ℕ) → has_number all_words a ≡ true → has_number (given_set set) a ≡ has_number set a
given_all set a is = shared set all_words a ∙ ap (λ b. has_number set a && b) is ∙ and_true (has_number set a)

each_two : (P Q R : ℕ → Type 0) (ns : List ℕ) → ((n : ℕ) → P n → Q n → R n) → AllByRecursion P ns → AllByRecursion Q ns → AllByRecursion R ns
each_two P Q R [] f p q = tt
each_two P Q R (n ∷ ns) f p q = (f n p.0 q.0, each_two P Q R ns f p.1 q.1)

-- if the permission is granted whenever it is demanded, the two agree
granted_if_asked : (asked granted : Bool) → (asked ≡ true → granted ≡ true) → asked ≡ asked && granted
granted_if_asked true granted h = sym (h refl)
granted_if_asked false granted h = refl

-- ---- one entry

module _ (c : Context) (asked : List ℕ) (s : Sight) (n : Name) where
  abbrev A : Bool
  A = allows s.lists c.caller n.child READ_ATTRIBUTES

  abbrev L : Bool
  L = allows s.lists c.caller n.child READ_ACL

  -- the attributes that a permission governs, among the permitted ones
  each_permitted : (ns : List ℕ) (b : Bool) → AllByRecursion IsSupported ns → AllByRecursion (λ a. has_number (granted_words A L) a ≡ b) ns
      → AllByRecursion (λ a. has_number (given_set (permitted s.lists c.caller n.child asked)) a ≡ has_number asked a && b) ns
  each_permitted ns b supported words =
      each_two IsSupported (λ a. has_number (granted_words A L) a ≡ b) (λ a. has_number (given_set (permitted s.lists c.caller n.child asked)) a ≡ has_number asked a && b) ns
      (λ a supported is. given_all (permitted s.lists c.caller n.child asked) a supported ∙ shared asked (granted_words A L) a ∙ ap (λ b. has_number asked a && b) is) supported words

  -- and among all that are requested, if the permission is granted when any of them is requested
  each_asked : (ns : List ℕ) (b : Bool) → AllByRecursion IsSupported ns → (has_any asked ns ≡ true → b ≡ true) → AllByRecursion (λ a. has_number (given_set asked) a ≡ has_number asked a && b) ns
  each_asked ns b supported granted =
      each_two IsSupported (λ a. has_number asked a ≡ true → list_any (λ m. has_number asked m) ns ≡ true) (λ a. has_number (given_set asked) a ≡ has_number asked a && b) ns
      (λ a supported is. given_all asked a supported ∙ granted_if_asked (has_number asked a) b (λ h. granted (is h))) supported (any_of (λ m. has_number asked m) ns)

  of_permitted : IsExact s.lists c.caller asked n (entry_of c s n statuses.Access (permitted s.lists c.caller n.child asked))
  of_permitted = record {
    cookie = refl;
    name = refl;
    attributes = each_permitted governed A are_supported (governed_words A L);
    acls = each_permitted list_giving L lists_are_supported (list_words A L);
    others = each_two IsSupported (λ a. has_number (granted_words A L) a ≡ true) (λ a. has_number (given_set (permitted s.lists c.caller n.child asked)) a ≡ has_number asked a) ungoverned
        (λ a supported is. given_all (permitted s.lists c.caller n.child asked) a supported ∙ shared asked (granted_words A L) a ∙ ap (λ b. has_number asked a && b) is ∙ and_true (has_number asked a)) others_are_supported (other_words A L);
  }

  of_asked : (has_any asked governed ≡ true → A ≡ true) → (has_any asked list_giving ≡ true → L ≡ true) → IsExact s.lists c.caller asked n (entry_of c s n statuses.Ok asked)
  of_asked attributes list = record {
    cookie = refl;
    name = refl;
    attributes = each_asked governed A are_supported attributes;
    acls = each_asked list_giving L lists_are_supported list;
    others = each IsSupported (λ a. has_number (given_set asked) a ≡ has_number asked a) ungoverned (λ a supported. given_all asked a supported) others_are_supported;
  }

  -- no demand on an object is refused
  none_refused : (kind : Kind) (g h : Bool)
      → first_refused s.lists c.caller (bits (Some (record { number = n.child; kind = kind })) (cond g READ_ATTRIBUTES 0) ∷ bits (Some (record { number = n.child; kind = kind })) (cond h READ_ACL 0) ∷ []) ≡ None
      → (g ≡ true → A ≡ true) × (h ≡ true → L ≡ true)
  none_refused kind true true none = of A L refl refl none
    where
      of : (a l : Bool) → A ≡ a → L ≡ l → cond a (cond l None (Some (Bits n.child READ_ACL))) (Some (Bits n.child READ_ATTRIBUTES)) ≡ None → (true ≡ true → A ≡ true) × (true ≡ true → L ≡ true)
      of true true is is' none = (λ h. is, λ h. is')
      of true false is is' none = cc
      of false l is is' none = cc
  none_refused kind true false none = of A refl none
    where
      of : (a : Bool) → A ≡ a → cond a None (Some (Bits n.child READ_ATTRIBUTES)) ≡ None → (true ≡ true → A ≡ true) × (false ≡ true → L ≡ true)
      of true is none = (λ h. is, λ h. cc)
      of false is none = cc
  none_refused kind false true none = of L refl none
    where
      of : (l : Bool) → L ≡ l → cond l None (Some (Bits n.child READ_ACL)) ≡ None → (false ≡ true → A ≡ true) × (true ≡ true → L ≡ true)
      of true is none = (λ h. cc, λ h. is)
      of false is none = cc
  none_refused kind false false none = (λ h. cc, λ h. cc)

  of_granted : (k : Option Kind) → s.kinds n.child ≡ k → IsSome k → first_refused s.lists c.caller (entry_demands asked (object_of s (Some n.child))) ≡ None → IsExact s.lists c.caller asked n (entry_of c s n statuses.Ok asked)
  of_granted None is live none = cc
  of_granted (Some kind) is live none =
      let f = none_refused kind (has_any asked governed) (has_any asked list_giving)
      (subst (λ k. first_refused s.lists c.caller (entry_demands asked (option_map (λ kind. record { number = n.child; kind = kind }) k)) ≡ None) is none) in
      of_asked f.0 f.1

  exact_of : IsSome (s.kinds n.child) → (e : Value entry) → judged_entry c asked s n ≡ Ok e → IsExact s.lists c.caller asked n e
  exact_of live e is = of (first_refused s.lists c.caller (entry_demands asked (object_of s (Some n.child)))) refl is
    where
      of : (o : Option Demand) → first_refused s.lists c.caller (entry_demands asked (object_of s (Some n.child))) ≡ o → entry_by c s n (judgment s.lists c.caller asked n.child o) ≡ Ok e → IsExact s.lists c.caller asked n e
      of None none is = let same : entry_of c s n statuses.Ok asked ≡ e = cc in subst (IsExact s.lists c.caller asked n) same (of_granted (s.kinds n.child) refl live none)
      of (Some d) some is = by (has_number asked 11) is
        where
          by : (b : Bool) → entry_by c s n (cond b (Ok (statuses.Access, permitted s.lists c.caller n.child asked)) (Err d)) ≡ Ok e → IsExact s.lists c.caller asked n e
          by true is = let same : entry_of c s n statuses.Access (permitted s.lists c.caller n.child asked) ≡ e = cc in subst (IsExact s.lists c.caller asked n) same of_permitted
          by false is = cc

-- ---- the entries

module _ (c : Context) (asked : List ℕ) (s : Sight) where
  next_exact : (k : ℕ) (n : Name) (names : List Name) (j : Judged Demand) → judged_entry c asked s n ≡ j → IsSome (s.kinds n.child)
      → AreExact s.lists c.caller asked names (take k (given_before (map (judged_entry c asked s) names)))
      → AreExact s.lists c.caller asked (n ∷ names) (take (suc k) (given_before (j ∷ map (judged_entry c asked s) names)))
  next_exact k n names (Ok e) is live others = (exact_of c asked s n live e is, others)
  next_exact k n names (Err d) is live others = tt

  are_exact : (k : ℕ) (names : List Name) → AllByRecursion (λ n. IsSome (s.kinds n.child)) names → AreExact s.lists c.caller asked names (take k (given_before (map (judged_entry c asked s) names)))
  are_exact zero names live = tt
  are_exact (suc k) [] live = tt
  are_exact (suc k) (n ∷ names) live = next_exact k n names (judged_entry c asked s n) refl live.0 (are_exact k names live.1)

  listing_exact : (limit : ℕ) (names : List Name) (o : Option Demand) → AllByRecursion (λ n. IsSome (s.kinds n.child)) names → AreExact s.lists c.caller asked names (given_in (listing_unless limit (map (judged_entry c asked s) names) o)).entries
  listing_exact limit names (Some d) live = tt
  listing_exact limit names None live = of (some_fit limit (map (judged_entry c asked s) names))
    where
      of : (b : Bool) → AreExact s.lists c.caller asked names (given_in (cond b (Ok (those_fitting limit (map (judged_entry c asked s) names))) (Err TooSmall))).entries
      of true = are_exact (fitting limit (map (judged_entry c asked s) names)) names live
      of false = tt

listed_exact : (c : Context) (v : Value readdir_args) (directory : ℕ) (s : Sight) → AllByRecursion (λ n. IsSome (s.kinds n.child)) (names_above s directory (listed_after v))
    → AreExact s.lists c.caller (requested c (listed_attributes v)) (names_above s directory (listed_after v)) (given_in (listed c v directory s)).entries
unfolding listed listing
listed_exact c v directory s live =
    let limit = readdir_limit (listed_at_most v) c.room in
    listing_exact c (requested c (listed_attributes v)) s limit (names_above s directory (listed_after v)) (first_refusal (judged_within limit (judged_above c (requested c (listed_attributes v)) directory (listed_after v) s))) live

-- ---- names have existing objects

all_in : (P : Name → Type 0) (names : List Name) → ((n : Name) → IsIn n names → P n) → AllByRecursion P names
all_in P [] f = tt
all_in P (n ∷ names) f = (f n (inl refl), all_in P names (λ m holds. f m (inr holds)))

names_live : (w : World) (directory cookie : ℕ) → IsSound w → AllByRecursion (λ n. IsSome (kind_of w n.child)) (filter (λ n. nat_lt cookie n.cookie) (names_in w.names directory))
names_live w directory cookie sound =
    all_in (λ n. IsSome (kind_of w n.child)) (filter (λ n. nat_lt cookie n.cookie) (names_in w.names directory)) (λ n holds.
    let above = from_filter (λ n. nat_lt cookie n.cookie) n (names_in w.names directory) holds in
    let within = from_filter (λ n. n.directory == directory) n w.names above.was_present in
    (sound.rooted.ends n within.was_present).1)

result_answer : (f : Option Status) (answer o : Outcome) → result_unless f answer ≡ Ok o → o ≡ answer
result_answer None answer o h = let same : answer ≡ o = cc in sym same
result_answer (Some status) answer o h = cc

pub gives_exactly : (c : Context) (h : Handles) (v : Value readdir_args) (r : Realm) (o : Outcome) → IsSound r.world → outcome (meaning c h (Known kinds.ReadDir v)) r ≡ Ok o → GivesExactly c h v (whole r) o
gives_exactly c h v r o sound is = record {
  given = given_in (listed c v (here h) (whole r));
  is = result_answer _ _ o is;
  exact = listed_exact c v (here h) (whole r) (names_live r.world (here h) (listed_after v) sound);
}

-- ---- an entry that is refused

-- the names: a prefix of them is returned, and the next one is refused
record Cut (f : Name → Judged Demand) (names : List Name) (given : List (Value entry)) (d : Demand) : Type 0 where
  before : List Name
  name : Name
  later : List Name
  parts : names ≡ before ++ name ∷ later
  are_given : map f before ≡ map Ok given
  refused : f name ≡ Err d

head_is : {X : Type 0} (x y : X) (xs ys : List X) → x ∷ xs ≡ y ∷ ys → x ≡ y
head_is x y xs ys is = cc

tail_is : {X : Type 0} (x y : X) (xs ys : List X) → x ∷ xs ≡ y ∷ ys → xs ≡ ys
tail_is x y xs ys is = cc

cut : (f : Name → Judged Demand) (names : List Name) (given : List (Value entry)) (d : Demand) (others : List (Judged Demand)) → map f names ≡ map Ok given ++ Err d ∷ others → Cut f names given d
cut f [] [] d others is = cc
cut f [] (e ∷ given) d others is = cc
cut f (n ∷ names) [] d others is = record { before = []; name = n; later = names; parts = refl; are_given = refl; refused = head_is (f n) (Err d) (map f names) others is }
cut f (n ∷ names) (e ∷ given) d others is =
    let rest = cut f names given d others (tail_is (f n) (Ok e) (map f names) (map Ok given ++ Err d ∷ others) is) in
    let one = head_is (f n) (Ok e) (map f names) (map Ok given ++ Err d ∷ others) is in
    record {
      before = n ∷ rest.before;
      name = rest.name;
      later = rest.later;
      parts = ap (λ l. n ∷ l) rest.parts;
      are_given = λ i. one i ∷ rest.are_given i;
      refused = rest.refused;
    }

refusing : (c : Context) (s : Sight) (n : Name) (j : Result (Status × List ℕ) Demand) (d : Demand) → entry_by c s n j ≡ Err d → j ≡ Err d
refusing c s n (Ok (error, set)) d is = cc
refusing c s n (Err e) d is = let same : e ≡ d = cc in ap (λ x. Err x) same

unasked : (lists : Lists) (caller : Identity) (asked : List ℕ) (number : ℕ) (o : Option Demand) (d : Demand) → judgment lists caller asked number o ≡ Err d → (has_number asked 11 ≡ false) × IsSome o
unasked lists caller asked number None d is = cc
unasked lists caller asked number (Some e) d is = of (has_number asked 11) refl is
  where
    given : Result (Status × List ℕ) Demand
    given = Ok (statuses.Access, permitted lists caller number asked)

    of : (b : Bool) → has_number asked 11 ≡ b → cond b given (Err e) ≡ Err d → (has_number asked 11 ≡ false) × IsSome (Some e)
    of true never is = cc
    of false never is = (never, refl)

-- the row of entries refuses if an entry is refused
refused_row : (lists : Lists) (caller : Identity) (t : Result Listing (ListFault Demand)) → all_granted lists caller (refused_in t ∷ []) ≡ false → (d : Demand) × (t ≡ Err (Refused d))
refused_row lists caller (Ok given) is = cc
refused_row lists caller (Err (Refused d)) is = (d, refl)
refused_row lists caller (Err TooSmall) is = cc

holds_apart : (test : Sight → Bool) (status : Status) (is : IsFault status) (demands : Sight → List (Option Demand)) → Holds test status is ≡ Row demands → ⊥
holds_apart test status is demands same = cc

valid_apart : (fault : Sight → Option Status) (may : (s : Sight) → MayFault (fault s)) (demands : Sight → List (Option Demand)) → Valid fault may ≡ Row demands → ⊥
valid_apart fault may demands same = cc

module _ (c : Context) (h : Handles) (v : Value readdir_args) (s : Sight) where
  abbrev limit : ℕ
  limit = readdir_limit (listed_at_most v) c.room

  abbrev judged : Name → Judged Demand
  judged = judged_entry c (requested c (listed_attributes v)) s

  -- the demand that refuses a listing
  what_is : (d : Demand) → listed c v (here h) s ≡ Err (Refused d) → IsListing limit (judged_above c (requested c (listed_attributes v)) (here h) (listed_after v) s) (Err (Refused d))
  unfolding listed
  what_is d is = subst (IsListing limit (judged_above c (requested c (listed_attributes v)) (here h) (listed_after v) s)) is (listing_is limit (judged_above c (requested c (listed_attributes v)) (here h) (listed_after v) s))

  abbrev Refuses : Type 0
  Refuses = IsUnlisted c h v s ⊎ MeetsRefused c h v s

  abbrev IsPassed : Type 0
  IsPassed = ArePassed c.caller s (before_row c h v)

  abbrev IsGranted : Type 0
  IsGranted = all_granted s.lists c.caller (first_demands (Known kinds.ReadDir v) (first_facts s h)) ≡ true

  meets : (d : Demand) → listed c v (here h) s ≡ Err (Refused d) → (passed : IsPassed) → IsGranted → MeetsRefused c h v s
  meets d is passed granted =
      let r = what_is d is in
      let at = cut judged (names_above s (here h) (listed_after v)) r.before d r.others r.parts in
      let none = unasked s.lists c.caller (requested c (listed_attributes v)) at.name.child _ d (refusing c s at.name _ d at.refused) in
      record {
        passed = passed;
        granted = granted;
        before = at.before;
        name = at.name;
        later = at.later;
        parts = at.parts;
        entries = r.before;
        given = at.are_given;
        within = r.fits;
        unasked = none.0;
        refused = none.1;
      }

  -- the row of LIST_DIRECTORY, or that of the entries
  rows_refuse : (demands : Sight → List (Option Demand)) → IsPassed
      → FailsFirst c.caller s (first_row h (Known kinds.ReadDir v) ∷ refuses_none c v (here h) ∷ fits_some c v (here h) ∷ []) (Row demands) → Refuses
  rows_refuse demands passed (inl is) = inl (record { passed = passed; refused = is.1 })
  rows_refuse demands passed (inr (granted, inl is)) =
      let r = refused_row s.lists c.caller (listed c v (here h) s) is.1 in inr (meets r.0 r.1 passed granted)
  rows_refuse demands passed (inr (granted, inr (none, inl is))) = absurd (holds_apart _ _ _ demands is.0)
  rows_refuse demands passed (inr (granted, inr (none, inr (fit, more)))) = absurd more

  refuses : (demands : Sight → List (Option Demand)) → FailsFirst c.caller s (meaning c h (Known kinds.ReadDir v)).questions (Row demands) → Refuses
  refuses demands (inl is) = absurd (valid_apart _ _ demands is.0)
  refuses demands (inr (a, inl is)) = absurd (holds_apart _ _ _ demands is.0)
  refuses demands (inr (a, inr (b, inl is))) = absurd (holds_apart _ _ _ demands is.0)
  refuses demands (inr (a, inr (b, inr (d, inl is)))) = absurd (holds_apart _ _ _ demands is.0)
  refuses demands (inr (a, inr (b, inr (d, inr (e, inl is))))) = absurd (holds_apart _ _ _ demands is.0)
  refuses demands (inr (a, inr (b, inr (d, inr (e, inr (f, inl is)))))) = absurd (valid_apart _ _ demands is.0)
  refuses demands (inr (a, inr (b, inr (d, inr (e, inr (f, inr (g, more))))))) = rows_refuse demands (a, (b, (d, (e, (f, (g, tt)))))) more

  -- ---- the other direction

  listed_refused : (m : MeetsRefused c h v s) (d : Demand) → first_refused s.lists c.caller (entry_demands (requested c (listed_attributes v)) (object_of s (Some m.name.child))) ≡ Some d → listed c v (here h) s ≡ Err (Refused d)
  unfolding listed
  listed_refused m d is =
      let err : Result (Status × List ℕ) Demand = Err d in
      let one : judged m.name ≡ Err d =
      ap (λ o. entry_by c s m.name (judgment s.lists c.caller (requested c (listed_attributes v)) m.name.child o)) is
      ∙ ap (λ b. entry_by c s m.name (cond b (Ok (statuses.Access, permitted s.lists c.caller m.name.child (requested c (listed_attributes v)))) err)) m.unasked in
      let parts : judged_above c (requested c (listed_attributes v)) (here h) (listed_after v) s ≡ map Ok m.entries ++ Err d ∷ map judged m.later =
      ap (map judged) m.parts ∙ map-append judged m.before (m.name ∷ m.later) ∙ (λ i. m.given i ++ one i ∷ map judged m.later) in
      ap (listing limit) parts ∙ refused_listing limit m.entries (map judged m.later) d m.within

  not_granted : (m : MeetsRefused c h v s) → all_granted s.lists c.caller (refused_in (listed c v (here h) s) ∷ []) ≡ false
  not_granted m = of (first_refused s.lists c.caller (entry_demands (requested c (listed_attributes v)) (object_of s (Some m.name.child)))) refl m.refused
    where
      of : (o : Option Demand) → first_refused s.lists c.caller (entry_demands (requested c (listed_attributes v)) (object_of s (Some m.name.child))) ≡ o → IsSome o → all_granted s.lists c.caller (refused_in (listed c v (here h) s) ∷ []) ≡ false
      of None is some = cc
      of (Some d) is some =
          let refused = listed_refused m d is in
          ap (λ t. all_granted s.lists c.caller (refused_in t ∷ [])) refused ∙ ap (λ b. b && true) (what_refuses c v (here h) s d refused)

  is_refused : Refuses → failure c.caller s (meaning c h (Known kinds.ReadDir v)).questions ≡ Some statuses.Access
  is_refused (inl u) =
      by_row c.caller s (meaning c h (Known kinds.ReadDir v)).questions (λ s. first_demands (Known kinds.ReadDir v) (first_facts s h))
      (inr (u.passed.0, inr (u.passed.1.0, inr (u.passed.1.1.0, inr (u.passed.1.1.1.0, inr (u.passed.1.1.1.1.0, inr (u.passed.1.1.1.1.1.0, inl (refl, u.refused))))))))
  is_refused (inr m) =
      by_row c.caller s (meaning c h (Known kinds.ReadDir v)).questions (λ s. refused_in (listed c v (here h) s) ∷ [])
      (inr (m.passed.0, inr (m.passed.1.0, inr (m.passed.1.1.0, inr (m.passed.1.1.1.0, inr (m.passed.1.1.1.1.0, inr (m.passed.1.1.1.1.1.0, inr (m.granted, inl (refl, not_granted m)))))))))

result_failure : (f : Option Status) (o : Outcome) → result_unless f o ≡ Err statuses.Access → f ≡ Some statuses.Access
result_failure None o is = cc
result_failure (Some status) o is = cc

pub readdir_refuses : (c : Context) (h : Handles) (v : Value readdir_args) (r : Realm) → outcome (meaning c h (Known kinds.ReadDir v)) r ≡ Err statuses.Access → IsUnlisted c h v (whole r) ⊎ MeetsRefused c h v (whole r)
readdir_refuses c h v r is = let row = refused_by_row c.caller (whole r) (meaning c h (Known kinds.ReadDir v)).questions (result_failure _ _ is) in refuses c h v (whole r) row.demands row.first

pub readdir_is_refused : (c : Context) (h : Handles) (v : Value readdir_args) (r : Realm) → IsUnlisted c h v (whole r) ⊎ MeetsRefused c h v (whole r) → outcome (meaning c h (Known kinds.ReadDir v)) r ≡ Err statuses.Access
readdir_is_refused c h v r is = let m = meaning c h (Known kinds.ReadDir v) in ap (λ f. result_unless f (m.answer (whole r))) (is_refused c h v (whole r) is)
