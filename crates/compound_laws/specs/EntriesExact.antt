-- The attributes in the entries that READDIR returns, and when an entry refuses it (RFC 8881,
-- sections 5.8, 6.2.1 and 18.23).
use Rattle.std.specs.Prelude.{◌≡◌, ◌≤◌, ◌⊎◌, ℕ, false, true, ◌&&◌, List, [], ◌∷◌, ◌++◌, map, IsSome, Some, Ok}
use Rattle.std.specs.List.{AllByRecursion}
use Rattle.xdr_wire.specs.Xdr.{Value}
use Rattle.rpc_record.specs.Identity.{Identity}
use Rattle.acl_list.specs.declared.mask.TheConstants.{READ_ATTRIBUTES, READ_ACL}
use Rattle.nfs_types.specs.Attributes.{numbers_read_by}
use Rattle.nfs_types.specs.Sets.{has_number}
use Rattle.nfs_ops.specs.Forms.{entry, readdir_args}
use Rattle.nfs_ops.specs.Given.{readdir_outcome}
use Rattle.nfs_ops.specs.Listing.{Listing, listing_size, readdir_limit}
use Rattle.nfs_ops.specs.Operations.{Known}
use Rattle.nfs_ops.specs.Parts.{entry_cookie, entry_name, entry_attributes, set_of, listed_after, listed_at_most}
use Rattle.nfs_ops.specs.Parts.{listed_attributes}
use Rattle.nfs_ops.specs.Results.{Outcome}
use Rattle.nfs_ops.specs.declared.OpKind.TheVariants as kinds
use Rattle.node_tree.specs.World.{Name}
use Rattle.access_rows.specs.Rows.{governed, list_giving, first_demands, entry_demands}
use Rattle.access_guard.specs.Lists.{Lists}
use Rattle.compound_run.specs.Context.{Context, Handles}
use Rattle.compound_run.specs.Sight.{Sight}
use Rattle.compound_run.specs.Questions.{Question, is_valid, all_granted}
use Rattle.compound_run.specs.Rows.{object_of, first_facts}
use Rattle.compound_run.specs.Meaning.{with_handle, here, is_directory}
use Rattle.compound_run.specs.Operations.Readdir.{allows, first_refused, judged_entry, names_above, is_cookie}
use Rattle.compound_run.specs.Operations.{entry_fault, entry_may}
use Rattle.compound_run.specs.Requested.{requested, is_readable}
use Rattle.compound_run.specs.Exact.{ArePassed}

-- ---- an entry that is returned

-- the set of the attributes of an entry
abbrev pub attributes_in : Value entry → List ℕ
attributes_in e = set_of (entry_attributes e)

-- the supported attributes that everyone can read
abbrev pub ungoverned : List ℕ
ungoverned = numbers_read_by 0

-- The entry is of this name. The access control list (ACL) of the name's object decides its attributes. One that
-- READ_ATTRIBUTES governs is present if and only if it is requested and READ_ATTRIBUTES is granted. Each of acl, dacl
-- and sacl is present if and only if it is requested and READ_ACL is granted. One that everyone can read is present if
-- and only if it is requested.
pub record IsExact (lists : Lists) (caller : Identity) (asked : List ℕ) (n : Name) (e : Value entry) : Type 0 where
  pub cookie : entry_cookie e ≡ n.cookie
  pub name : entry_name e ≡ n.name
  pub attributes : AllByRecursion
      (λ a. has_number (attributes_in e) a ≡ has_number asked a && allows lists caller n.child READ_ATTRIBUTES)
      governed
  pub acls : AllByRecursion
      (λ a. has_number (attributes_in e) a ≡ has_number asked a && allows lists caller n.child READ_ACL) list_giving
  pub others : AllByRecursion (λ a. has_number (attributes_in e) a ≡ has_number asked a) ungoverned

-- the entries are those of a prefix of these names, in order
abbrev pub AreExact : Lists → Identity → List ℕ → List Name → List (Value entry) → Type 0
AreExact lists caller asked names [] = Unit {0}
AreExact lists caller asked [] (e ∷ entries) = ⊥
AreExact lists caller asked (n ∷ names) (e ∷ entries) =
    IsExact lists caller asked n e × AreExact lists caller asked names entries

-- the result of READDIR has exact entries, of the names above the cookie
pub record GivesExactly (c : Context) (h : Handles) (v : Value readdir_args) (s : Sight) (o : Outcome) : Type 0 where
  pub given : Listing
  pub is : o ≡ readdir_outcome given
  pub exact : AreExact s.lists c.caller (requested c (listed_attributes v)) (names_above s (here h) (listed_after v))
      given.entries

-- ---- a READDIR that is refused

-- the questions before LIST_DIRECTORY
abbrev pub before_row : Context → Handles → Value readdir_args → List Question
before_row c h v =
    is_valid (entry_fault c (Known kinds.ReadDir v)) (entry_may c (Known kinds.ReadDir v))
    ∷ with_handle h.current
    (is_directory (here h) ∷ is_cookie (listed_after v) ∷ is_readable (requested c (listed_attributes v)) ∷ [])

-- LIST_DIRECTORY is demanded, and isn't granted
pub record IsUnlisted (c : Context) (h : Handles) (v : Value readdir_args) (s : Sight) : Type 0 where
  pub passed : ArePassed c.caller s (before_row c h v)
  pub refused : all_granted s.lists c.caller (first_demands (Known kinds.ReadDir v) (first_facts s h)) ≡ false

-- A refused entry is reached without rdattr_error (11) requested: the ACL of its object refuses a requested attribute.
-- The entries before it, if any, are returned and within the limit.
pub record MeetsRefused (c : Context) (h : Handles) (v : Value readdir_args) (s : Sight) : Type 0 where
  pub passed : ArePassed c.caller s (before_row c h v)
  pub granted : all_granted s.lists c.caller (first_demands (Known kinds.ReadDir v) (first_facts s h)) ≡ true
  pub before : List Name
  pub name : Name
  pub later : List Name
  pub parts : names_above s (here h) (listed_after v) ≡ before ++ name ∷ later
  pub entries : List (Value entry)
  pub given : map (judged_entry c (requested c (listed_attributes v)) s) before ≡ map Ok entries
  pub within : (entries ≡ []) ⊎ (listing_size entries ≤ readdir_limit (listed_at_most v) c.room)
  pub unasked : has_number (requested c (listed_attributes v)) 11 ≡ false
  pub refused : IsSome
      (first_refused s.lists c.caller
      (entry_demands (requested c (listed_attributes v)) (object_of s (Some name.child))))
