-- The view of an object's bytes and attributes determines the answer about them.
use Rattle.std.proofs.Common.{◌≡◌, ℕ, ◌<◌, ◌^◌, Bool, true, false, cond, List, refl, sym, ap, ◌∙◌, subst, arith}
use Rattle.std.specs.Prelude.{[], ◌∷◌, ◌++◌, ◌==◌, Option, Some, None, is_some, unwrap_or, bit_and, bit_or, if◌then◌else◌}
use Rattle.std.specs.List.{flat_map}
use Rattle.std.specs.Option.{option_map, option_map_or}
use Rattle.std.proofs.lemmas.Nat.{and_assoc}
use Rattle.rpc_record.specs.Identity.{Identity}
use Rattle.acl_list.specs.declared.entry.Kind.{Kind}
use Rattle.acl_list.specs.declared.mask.TheConstants.{READ_DATA, READ_ATTRIBUTES, READ_ACL}
use Rattle.acl_list.specs.declared.answer.Verdict.{Verdict}
use Rattle.acl_list.specs.declared.answer.Verdict.TheVariants as verdicts
use Rattle.acl_list.specs.Summaries.{granted_mask}
use Rattle.acl_list.specs.Verdicts.{verdict}
use Rattle.acl_list.proofs.Covering.{granted_iff_covered}
use Rattle.who_book.specs.Content.{Content}
use Rattle.nfs_types.specs.Attributes.{all}
use Rattle.nfs_types.specs.Given.{part, given_values}
use Rattle.nfs_types.specs.Sets.{has_number}
use Rattle.nfs_types.specs.declared.attribute.Attribute.{Attribute}
use Rattle.nfs_types.specs.declared.attribute.Attribute.TheVariants.{Change, Mode, TimeAccess, TimeMetadata, TimeModify}
use Rattle.nfs_types.specs.declared.status.Status.{Status}
use Rattle.node_tree.specs.Judged.{Judged, judged_of}
use Rattle.node_tree.specs.World.{kind_of}
use Rattle.access_rows.specs.declared.demand.Demand.{Demand}
use Rattle.access_rows.specs.declared.demand.Demand.TheVariants.{Bits}
use Rattle.access_rows.specs.Rows.{bits, has_any, governed, list_giving, reading_mask}
use Rattle.access_guard.specs.Lists.{Lists, names}
use Rattle.access_guard.specs.Decisions.{decision, is_granted, answer}
use Rattle.compound_run.specs.Realm.{Realm}
use Rattle.compound_run.specs.Sight.{whole, view, gives}
use Rattle.compound_run.specs.Questions.{all_granted}
use Rattle.compound_run.specs.Rows.{object_of}
use Rattle.compound_run.specs.Values.{facts_at, values_at}
use Rattle.compound_laws.proofs.Seen.{first}
use Rattle.compound_laws.proofs.Tested.{fails}

-- ---- a row on one object

-- a row of a mask on the object of a number
abbrev pub Grants : Realm → Identity → Option ℕ → ℕ → Type 0
Grants w caller handle mask = all_granted (judged_of w.world) caller (bits (object_of (whole w) handle) mask ∷ None ∷ []) ≡ true

one_granted : (lists : Lists) (caller : Identity) (d : Demand) (none : Bool) → none ≡ false → all_granted lists caller (cond none None (Some d) ∷ None ∷ []) ≡ true → is_granted (decision lists caller d) ≡ true
one_granted lists caller d true is h = cc
one_granted lists caller d false is h = first (is_granted (decision lists caller d)) true h

pub gives_mask : (w : Realm) (caller : Identity) (number mask : ℕ) (kind : Option Kind) → kind_of w.world number ≡ kind → is_some kind ≡ true → mask == 0 ≡ false → Grants w caller (Some number) mask → gives w.world caller number mask ≡ true
gives_mask w caller number mask None is there some h = cc
gives_mask w caller number mask (Some kind) is there some h =
    one_granted (judged_of w.world) caller (Bits number mask) (mask == 0) some
    (subst (λ k. all_granted (judged_of w.world) caller (bits (option_map (λ kind. record { number = number; kind = kind }) k) mask ∷ None ∷ []) ≡ true) is h)

-- ---- a part of granted mask bits is granted

granted_is : (number mask : ℕ) (v : Verdict) → is_granted (answer number mask v) ≡ true → v ≡ verdicts.Granted
granted_is number mask verdicts.Granted h = refl
granted_is number mask (verdicts.Denied index) h = cc
granted_is number mask (verdicts.Missing bit) h = cc

part_covered : (mask part granted : ℕ) → bit_and part mask ≡ part → bit_and mask granted ≡ mask → bit_and part granted ≡ part
part_covered mask part granted within covers =
    ap (λ n. bit_and n granted) (sym within) ∙ and_assoc granted part mask ∙ ap (bit_and part) covers ∙ within

part_judged : (j : Judged) (caller : Identity) (mask part : ℕ) → mask < 2 ^ 32 → part < 2 ^ 32 → bit_and part mask ≡ part → verdict (names j caller) j.list mask ≡ verdicts.Granted → verdict (names j caller) j.list part ≡ verdicts.Granted
part_judged j caller mask part fits small within h =
    (granted_iff_covered (names j caller) j.list part small).1
    (part_covered mask part (granted_mask (names j caller) j.list) within ((granted_iff_covered (names j caller) j.list mask fits).0 h))

part_given : (o : Option Judged) (caller : Identity) (number mask part : ℕ) → mask < 2 ^ 32 → part < 2 ^ 32 → bit_and part mask ≡ part
    → is_granted (answer number mask (option_map_or (λ j. verdict (names j caller) j.list mask) o (verdicts.Missing 0))) ≡ true
    → is_granted (answer number part (option_map_or (λ j. verdict (names j caller) j.list part) o (verdicts.Missing 0))) ≡ true
part_given None caller number mask part fits small within h = cc
part_given (Some j) caller number mask part fits small within h =
    rw (part_judged j caller mask part fits small within (granted_is number mask (verdict (names j caller) j.list mask) h)) refl

pub gives_part : (w : Realm) (caller : Identity) (number mask part : ℕ) → mask < 2 ^ 32 → part < 2 ^ 32 → bit_and part mask ≡ part → gives w.world caller number mask ≡ true → gives w.world caller number part ≡ true
gives_part w caller number mask part fits small within h = part_given (judged_of w.world number) caller number mask part fits small within h

-- ---- bytes

pub bytes_seen : (w : Realm) (caller : Identity) (number : ℕ) → gives w.world caller number READ_DATA ≡ true → (whole w).bytes number ≡ (view w caller).bytes number
bytes_seen w caller number h = rw h refl

-- a row of READ_DATA on the object of a filehandle
pub reads : (w : Realm) (caller : Identity) (handle : Option ℕ) → is_some handle ≡ true → is_some (kind_of w.world (unwrap_or handle 0)) ≡ true → Grants w caller handle READ_DATA → gives w.world caller (unwrap_or handle 0) READ_DATA ≡ true
reads w caller None set live h = cc
reads w caller (Some number) set live h = gives_mask w caller number READ_DATA (kind_of w.world number) refl live refl h

-- ---- attributes

-- READ_ATTRIBUTES is granted, or no attribute that it governs is requested
abbrev pub MaySee : Realm → Identity → ℕ → List ℕ → Type 0
MaySee w caller number asked = has_any asked governed ≡ true → gives w.world caller number READ_ATTRIBUTES ≡ true

-- the demands on the access control list for these attributes, row by row
abbrev mask_of : Bool → Bool → ℕ
mask_of some list = bit_or (if some then READ_ATTRIBUTES else 0) (if list then READ_ACL else 0)

governed_given : (w : Realm) (caller : Identity) (number : ℕ) (some list : Bool) (kind : Option Kind) → kind_of w.world number ≡ kind → is_some kind ≡ true
    → Grants w caller (Some number) (mask_of some list) → some ≡ true → gives w.world caller number READ_ATTRIBUTES ≡ true
governed_given w caller number true true kind is there h asked =
    gives_part w caller number (mask_of true true) READ_ATTRIBUTES (omega arith) (omega arith) refl (gives_mask w caller number (mask_of true true) kind is there refl h)
governed_given w caller number true false kind is there h asked = gives_mask w caller number READ_ATTRIBUTES kind is there refl h
governed_given w caller number false list kind is there h asked = cc

pub may_see : (w : Realm) (caller : Identity) (handle : Option ℕ) (asked : List ℕ) → is_some handle ≡ true → is_some (kind_of w.world (unwrap_or handle 0)) ≡ true
    → Grants w caller handle (reading_mask asked) → MaySee w caller (unwrap_or handle 0) asked
may_see w caller None asked set live h = cc
may_see w caller (Some number) asked set live h =
    governed_given w caller number (has_any asked governed) (has_any asked list_giving) (kind_of w.world number) refl live h

-- the governed attributes
abbrev is_governed : List ℕ → Attribute → Bool
is_governed asked Change = has_number asked 3
is_governed asked Mode = has_number asked 33
is_governed asked TimeAccess = has_number asked 47
is_governed asked TimeMetadata = has_number asked 52
is_governed asked TimeModify = has_number asked 53
is_governed asked _ = false

ungoverned : (asked : List ℕ) → has_any asked governed ≡ false → (a : Attribute) → is_governed asked a ≡ false
ungoverned asked none Change = fails (λ n. has_number asked n) governed 3 none refl
ungoverned asked none Mode = fails (λ n. has_number asked n) governed 33 none refl
ungoverned asked none TimeAccess = fails (λ n. has_number asked n) governed 47 none refl
ungoverned asked none TimeMetadata = fails (λ n. has_number asked n) governed 52 none refl
ungoverned asked none TimeModify = fails (λ n. has_number asked n) governed 53 none refl
ungoverned asked none _ = refl

module _ (book : Content) (w : Realm) (caller : Identity) (number : ℕ) (error : Status) (asked : List ℕ) where
  abbrev In : (a : Attribute) → Type 0
  In a = part book (facts_at (whole w) number error asked) asked a ≡ part book (facts_at (view w caller) number error asked) asked a

  part_seen : (a : Attribute) → is_governed asked a ≡ false → In a
  part_seen Change none = rw none refl
  part_seen Mode none = rw none refl
  part_seen TimeAccess none = rw none refl
  part_seen TimeMetadata none = rw none refl
  part_seen TimeModify none = rw none refl
  part_seen _ none = refl

  parts_seen : ((a : Attribute) → is_governed asked a ≡ false) → (some : List Attribute)
      → flat_map (part book (facts_at (whole w) number error asked) asked) some ≡ flat_map (part book (facts_at (view w caller) number error asked) asked) some
  parts_seen none [] = refl
  parts_seen none (a ∷ some) = λ i. part_seen a (none a) i ++ parts_seen none some i

  pub values_seen : MaySee w caller number asked → values_at book (whole w) number error asked ≡ values_at book (view w caller) number error asked
  unfolding given_values
  values_seen may = of (has_any asked governed) refl
    where
      of : (b : Bool) → has_any asked governed ≡ b → values_at book (whole w) number error asked ≡ values_at book (view w caller) number error asked
      of true is = rw (may is) refl
      of false is = parts_seen (ungoverned asked is) all
