-- READDIR reveals to a caller no more than the caller may see.
use Rattle.std.proofs.Common.{◌≡◌, ℕ, Bool, true, false, ◌&&◌, ◌||◌, cond, List, refl, sym, ap, ◌∙◌}
use Rattle.std.specs.Prelude.{[], ◌∷◌, Option, Some, None, Result, Ok, Err, is_some, map, filter, nat_lt, if◌then◌else◌, unwrap_or}
use Rattle.std.specs.Option.{option_map}
use Rattle.std.specs.List.{AllByRecursion, list_any}
use Rattle.xdr_wire.specs.Xdr.{Value}
use Rattle.rpc_record.specs.Identity.{Identity}
use Rattle.acl_list.specs.declared.mask.TheConstants.{LIST_DIRECTORY, READ_ATTRIBUTES, READ_ACL, EXECUTE}
use Rattle.acl_list.specs.declared.entry.Kind.{Kind}
use Rattle.nfs_types.specs.Common.{common}
use Rattle.nfs_types.specs.Forms.{trimmed}
use Rattle.nfs_types.specs.Given.{given_set}
use Rattle.nfs_types.specs.Sets.{has_number}
use Rattle.nfs_types.specs.declared.status.Status.{Status}
use Rattle.nfs_types.specs.declared.status.Status.TheVariants as statuses
use Rattle.nfs_types.proofs.Tables.{shared}
use Rattle.nfs_ops.specs.Forms.{readdir_args}
use Rattle.nfs_ops.specs.Given.{readdir_outcome}
use Rattle.nfs_ops.specs.Listing.{Judged, listing, readdir_limit}
use Rattle.nfs_ops.specs.Operations.{Known}
use Rattle.nfs_ops.specs.Parts.{listed_after, listed_at_most, listed_attributes}
use Rattle.nfs_ops.specs.declared.OpKind.TheVariants as kinds
use Rattle.node_tree.specs.World.{Name, Object, object, kind_of, names_in}
use Rattle.node_tree.specs.Judged.{judged_of}
use Rattle.access_rows.specs.Rows.{bits, has_any, governed, list_giving, entry_demands, granted_words}
use Rattle.access_rows.specs.declared.demand.Demand.{Demand}
use Rattle.access_rows.specs.declared.demand.Demand.TheVariants.{Bits}
use Rattle.compound_run.specs.Realm.{Realm}
use Rattle.compound_run.specs.Context.{Context, Handles}
use Rattle.compound_run.specs.Sight.{Sight, whole, view, gives}
use Rattle.compound_run.specs.Values.{values_at}
use Rattle.compound_run.specs.Rows.{object_of}
use Rattle.compound_run.specs.Meaning.{here}
use Rattle.compound_run.specs.Operations.{meaning}
use Rattle.compound_run.specs.Requested.{requested}
use Rattle.compound_run.specs.Operations.Readdir.{first_refused, permitted, judgment, entry_by, judged_entry, listed, refused_in, fits_in, given_in}
use Rattle.compound_laws.specs.Disclosure.{DisclosesNothing}
use Rattle.compound_laws.proofs.Seen.{IsSeen, discloses_nothing}
use Rattle.compound_laws.proofs.Tested.{all_fail}
use Rattle.compound_laws.proofs.Observing.{Grants, MaySee, gives_mask, values_seen}

-- ---- the names

names_listed : (w : Realm) (caller : Identity) (number : ℕ) → gives w.world caller number LIST_DIRECTORY ≡ true → (whole w).names number ≡ (view w caller).names number
names_listed w caller number h = of (gives w.world caller number EXECUTE)
  where
    of : (b : Bool) → names_in w.world.names number ≡ (if b || gives w.world caller number LIST_DIRECTORY then names_in w.world.names number else [])
    of true = refl
    of false = rw h refl

lists_names : (w : Realm) (caller : Identity) (handle : Option ℕ) → is_some handle ≡ true → is_some (kind_of w.world (unwrap_or handle 0)) ≡ true → Grants w caller handle LIST_DIRECTORY → gives w.world caller (unwrap_or handle 0) LIST_DIRECTORY ≡ true
lists_names w caller None set live h = cc
lists_names w caller (Some number) set live h = gives_mask w caller number LIST_DIRECTORY (kind_of w.world number) refl live refl h

-- ---- attributes that aren't permitted aren't returned

without : (asked words : List ℕ) (n : ℕ) → has_number words n ≡ false → has_number (trimmed (common asked words)) n ≡ false
without asked words n never = shared asked words n ∙ ap (λ b. has_number asked n && b) never ∙ of (has_number asked n)
  where
    of : (b : Bool) → b && false ≡ false
    of true = refl
    of false = refl

any_none : (p : ℕ → Bool) (ns : List ℕ) → AllByRecursion (λ n. p n ≡ false) ns → list_any p ns ≡ false
any_none p [] all = refl
any_none p (n ∷ ns) all = rw all.0 (any_none p ns all.1)

each_without : (asked words ns : List ℕ) → AllByRecursion (λ n. has_number words n ≡ false) ns → AllByRecursion (λ n. has_number (trimmed (common asked words)) n ≡ false) ns
each_without asked words [] all = tt
each_without asked words (n ∷ ns) all = (without asked words n all.0, each_without asked words ns all.1)

-- if READ_ATTRIBUTES isn't granted, no attribute that it governs is returned
none_given : (l : Bool) → AllByRecursion (λ n. has_number (granted_words false l) n ≡ false) governed
unfolding has_number
none_given true = all_fail (λ n. has_number (granted_words false true) n) governed refl
none_given false = all_fail (λ n. has_number (granted_words false false) n) governed refl

none_governed : (l : Bool) (asked : List ℕ) → has_any (trimmed (common asked (granted_words false l))) governed ≡ false
none_governed l asked = any_none (λ n. has_number (trimmed (common asked (granted_words false l))) n) governed (each_without asked (granted_words false l) governed (none_given l))

-- permitted attributes may be seen
permitted_seen : (w : Realm) (caller : Identity) (number : ℕ) (asked : List ℕ) → MaySee w caller number (permitted (judged_of w.world) caller number asked)
permitted_seen w caller number asked h = of (gives w.world caller number READ_ATTRIBUTES) refl
  where
    list : Bool
    list = gives w.world caller number READ_ACL

    of : (b : Bool) → gives w.world caller number READ_ATTRIBUTES ≡ b → gives w.world caller number READ_ATTRIBUTES ≡ true
    of true is = is
    of false is =
        let none : has_any (permitted (judged_of w.world) caller number asked) governed ≡ false =
        ap (λ a. has_any (trimmed (common asked (granted_words a list))) governed) is ∙ none_governed list asked in
        cc

-- ---- an entry

-- an object that doesn't exist has no attributes
values_of_none : (c : Context) (w : Realm) (number : ℕ) (error : Status) (set : List ℕ) → object w.world number ≡ None → values_at c.book (whole w) number error set ≡ values_at c.book (view w c.caller) number error set
values_of_none c w number error set none = of (gives w.world c.caller number READ_ATTRIBUTES) refl
  where
    of : (b : Bool) → gives w.world c.caller number READ_ATTRIBUTES ≡ b → values_at c.book (whole w) number error set ≡ values_at c.book (view w c.caller) number error set
    of true is = rw is refl
    of false is = rw is (rw none refl)

-- if no demand is refused, the governed attributes may be seen
all_seen : (w : Realm) (caller : Identity) (number : ℕ) (asked : List ℕ) (k : Option Kind) → object_of (whole w) (Some number) ≡ option_map (λ kind. record { number = number; kind = kind }) k → is_some k ≡ true
    → first_refused (judged_of w.world) caller (entry_demands asked (object_of (whole w) (Some number))) ≡ None → MaySee w caller number asked
all_seen w caller number asked None is there none governs = cc
all_seen w caller number asked (Some kind) is there none governs =
    let demands : first_refused (judged_of w.world) caller (bits (Some (record { number = number; kind = kind })) READ_ATTRIBUTES ∷ bits (Some (record { number = number; kind = kind })) (if has_any asked list_giving then READ_ACL else 0) ∷ []) ≡ None =
    sym (ap (λ b. first_refused (judged_of w.world) caller (bits (Some (record { number = number; kind = kind })) (if b then READ_ATTRIBUTES else 0) ∷ bits (Some (record { number = number; kind = kind })) (if has_any asked list_giving then READ_ACL else 0) ∷ [])) governs)
    ∙ sym (ap (λ o. first_refused (judged_of w.world) caller (entry_demands asked o)) is) ∙ none in
    of (gives w.world caller number READ_ATTRIBUTES) refl demands
  where
    of : (b : Bool) → gives w.world caller number READ_ATTRIBUTES ≡ b
        → cond b (first_refused (judged_of w.world) caller (bits (Some (record { number = number; kind = kind })) (if has_any asked list_giving then READ_ACL else 0) ∷ [])) (Some (Bits number READ_ATTRIBUTES)) ≡ None
        → gives w.world caller number READ_ATTRIBUTES ≡ true
    of true is h = is
    of false is h = cc

module _ (c : Context) (asked : List ℕ) (w : Realm) (n : Name) where
  abbrev judged_by : Result (Status × List ℕ) Demand → Sight → Judged Demand
  judged_by j s = entry_by c s n j

  values_seen_at : (error : Status) (set : List ℕ) → MaySee w c.caller n.child set → judged_by (Ok (error, set)) (whole w) ≡ judged_by (Ok (error, set)) (view w c.caller)
  values_seen_at error set may =
      ap (λ values. let j : Judged Demand = Ok (n.cookie, (n.name, (given_set set, values))) in j) (values_seen c.book w c.caller n.child error set may)

  judged_seen : (o : Option Demand) → first_refused (judged_of w.world) c.caller (entry_demands asked (object_of (whole w) (Some n.child))) ≡ o
      → judged_by (judgment (judged_of w.world) c.caller asked n.child o) (whole w) ≡ judged_by (judgment (judged_of w.world) c.caller asked n.child o) (view w c.caller)
  judged_seen None is = of (object w.world n.child) refl
    where
      of : (o : Option Object) → object w.world n.child ≡ o → judged_by (Ok (statuses.Ok, asked)) (whole w) ≡ judged_by (Ok (statuses.Ok, asked)) (view w c.caller)
      of None none = ap (λ values. let j : Judged Demand = Ok (n.cookie, (n.name, (given_set asked, values))) in j) (values_of_none c w n.child statuses.Ok asked none)
      of (Some o) there =
          values_seen_at statuses.Ok asked (all_seen w c.caller n.child asked (Some o.kind) (ap (λ x. option_map (λ kind. record { number = n.child; kind = kind }) (option_map (λ o. o.kind) x)) there) refl is)
  judged_seen (Some d) is = of (has_number asked 11)
    where
      of : (b : Bool) → judged_by (if b then Ok (statuses.Access, permitted (judged_of w.world) c.caller n.child asked) else Err d) (whole w) ≡ judged_by (if b then Ok (statuses.Access, permitted (judged_of w.world) c.caller n.child asked) else Err d) (view w c.caller)
      of true = values_seen_at statuses.Access (permitted (judged_of w.world) c.caller n.child asked) (permitted_seen w c.caller n.child asked)
      of false = refl

  entry_seen : judged_entry c asked (whole w) n ≡ judged_entry c asked (view w c.caller) n
  entry_seen = judged_seen (first_refused (judged_of w.world) c.caller (entry_demands asked (object_of (whole w) (Some n.child)))) refl

entries_seen : (c : Context) (asked : List ℕ) (w : Realm) (all : List Name) → map (judged_entry c asked (whole w)) all ≡ map (judged_entry c asked (view w c.caller)) all
entries_seen c asked w [] = refl
entries_seen c asked w (n ∷ all) = λ i. entry_seen c asked w n i ∷ entries_seen c asked w all i

-- ---- the operation

listed_seen : (c : Context) (v : Value readdir_args) (directory : ℕ) (w : Realm) → gives w.world c.caller directory LIST_DIRECTORY ≡ true → listed c v directory (whole w) ≡ listed c v directory (view w c.caller)
unfolding listed
listed_seen c v directory w granted =
    let names = names_listed w c.caller directory granted in
    ap (listing (readdir_limit (listed_at_most v) c.room))
    (entries_seen c (requested c (listed_attributes v)) w (filter (λ n. nat_lt (listed_after v) n.cookie) ((whole w).names directory))
    ∙ ap (λ all. map (judged_entry c (requested c (listed_attributes v)) (view w c.caller)) (filter (λ n. nat_lt (listed_after v) n.cookie) all)) names)

readdir_seen : (c : Context) (h : Handles) (v : Value readdir_args) → IsSeen (meaning c h (Known kinds.ReadDir v))
readdir_seen c h v w = (
  refl,
  λ _. (
    refl,
    λ set. (
      refl,
      λ live. (
        refl,
        λ _. (
          refl,
          λ _. (
            refl,
            λ _. (
              refl,
              λ granted.
                  let same = listed_seen c v (here h) w (lists_names w c.caller h.current set live granted) in
                  (ap (λ l. refused_in l ∷ []) same, λ _. (ap fits_in same, λ _. ap (λ l. readdir_outcome (given_in l)) same)),
            ),
          ),
        ),
      ),
    ),
  ),
)

pub readdir_discloses_nothing : (c : Context) (h : Handles) (v : Value readdir_args) → DisclosesNothing (meaning c h (Known kinds.ReadDir v))
readdir_discloses_nothing c h v = discloses_nothing (meaning c h (Known kinds.ReadDir v)) (readdir_seen c h v)
