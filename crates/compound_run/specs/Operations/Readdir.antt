-- READDIR (RFC 8881, section 18.23): lists entries of the current directory, each with attributes of its object.
use Rattle.std.specs.Prelude.{ℕ, ◌==◌, ◌||◌, Bool, true, false, not, nat_lt, if◌then◌else◌, List, [], ◌∷◌, map}
use Rattle.std.specs.Prelude.{filter, Option, Some, None, Result, Ok, Err}
use Rattle.xdr_wire.specs.Xdr.{Value}
use Rattle.rpc_record.specs.Identity.{Identity}
use Rattle.acl_list.specs.declared.mask.TheConstants.{READ_ATTRIBUTES, READ_ACL}
use Rattle.nfs_types.specs.Common.{common}
use Rattle.nfs_types.specs.Forms.{trimmed}
use Rattle.nfs_types.specs.Sets.{has_number}
use Rattle.nfs_types.specs.declared.status.Status.{Status}
use Rattle.nfs_types.specs.declared.status.Status.TheVariants as statuses
use Rattle.nfs_ops.specs.Forms.{entry, readdir_args}
use Rattle.nfs_ops.specs.Given.{readdir_outcome}
use Rattle.nfs_ops.specs.Listing.{Judged, Listing, listing, readdir_limit}
use Rattle.nfs_ops.specs.Operations.{Known}
use Rattle.nfs_ops.specs.Parts.{listed_after, listed_at_most, listed_attributes}
use Rattle.nfs_ops.specs.declared.listing.ListFault.{ListFault}
use Rattle.nfs_ops.specs.declared.listing.ListFault.TheVariants.{Refused, TooSmall}
use Rattle.nfs_ops.specs.declared.OpKind.TheVariants as kinds
use Rattle.nfs_ops.specs.Rows.{row}
use Rattle.node_tree.specs.World.{Name}
use Rattle.access_rows.specs.Rows.{Demands, entry_demands, granted_words}
use Rattle.access_rows.specs.declared.facts.Object.{Object}
use Rattle.access_rows.specs.declared.demand.Demand.{Demand}
use Rattle.access_rows.specs.declared.demand.Demand.TheVariants.{Bits}
use Rattle.access_guard.specs.Lists.{Lists}
use Rattle.access_guard.specs.Decisions.{decision, is_granted}
use Rattle.compound_run.specs.declared.filehandles.FileHandles.{FileHandles}
use Rattle.compound_run.specs.Context.{Context}
use Rattle.compound_run.specs.Sight.{Sight}
use Rattle.compound_run.specs.Values.{attributes_at}
use Rattle.compound_run.specs.Questions.{Question, Holds, Row}
use Rattle.compound_run.specs.Requested.{requested, is_readable}
use Rattle.compound_run.specs.Rows.{object_of, first_row}
use Rattle.compound_run.specs.Meaning.{Meaning, stays, with_handle, here, is_directory}

-- ---- an entry

-- whether the access control list (ACL) of an object grants these mask bits
abbrev pub allows : Lists → Identity → ℕ → ℕ → Bool
allows lists caller number mask = is_granted (decision lists caller (Bits number mask))

-- the first demand that is present and that the ACLs don't grant
abbrev pub first_refused : Lists → Identity → Demands → Option Demand
first_refused lists caller [] = None
first_refused lists caller (None ∷ demands) = first_refused lists caller demands
first_refused lists caller (Some d ∷ demands) =
    if is_granted (decision lists caller d) then first_refused lists caller demands else Some d

-- the requested attributes that the object's ACL permits
abbrev pub permitted : Lists → Identity → ℕ → List ℕ → List ℕ
permitted lists caller number asked =
    trimmed
    (common asked
    (granted_words (allows lists caller number READ_ATTRIBUTES) (allows lists caller number READ_ACL)))

-- The rdattr_error (11) and the attributes of an entry's object, given the first demand that its ACL refuses. If
-- rdattr_error isn't requested, the demand refuses the entry.
abbrev pub judgment : Lists → Identity → List ℕ → ℕ → Option Demand → Result (Status × List ℕ) Demand
judgment lists caller asked number None = Ok (statuses.Ok, asked)
judgment lists caller asked number (Some d) =
    if has_number asked 11 then Ok (statuses.Access, permitted lists caller number asked) else Err d

abbrev pub judgment_of : Lists → Identity → List ℕ → ℕ → Option Object → Result (Status × List ℕ) Demand
judgment_of lists caller asked number entry =
    judgment lists caller asked number (first_refused lists caller (entry_demands asked entry))

-- the entry with these attributes of its object; rdattr_error is this status
abbrev pub entry_of : Context → Sight → Name → Status → List ℕ → Value entry
entry_of c s n error set = (n.cookie, (n.name, attributes_at c.book s n.child error set))

abbrev pub entry_by : Context → Sight → Name → Result (Status × List ℕ) Demand → Judged Demand
entry_by c s n (Ok (error, set)) = Ok (entry_of c s n error set)
entry_by c s n (Err d) = Err d

abbrev pub judged_entry : Context → List ℕ → Sight → Name → Judged Demand
judged_entry c asked s n = entry_by c s n (judgment_of s.lists c.caller asked n.child (object_of s (Some n.child)))

-- ---- the entries

-- the names of a directory above a cookie, by rising cookie
abbrev pub names_above : Sight → ℕ → ℕ → List Name
names_above s directory cookie = filter (λ n. nat_lt cookie n.cookie) (s.names directory)

abbrev pub judged_above : Context → List ℕ → ℕ → ℕ → Sight → List (Judged Demand)
judged_above c asked directory cookie s = map (judged_entry c asked s) (names_above s directory cookie)

-- The entries that are returned: the longest prefix that fits. None are returned if a judged entry is refused, or if
-- nothing fits.
unfoldable pub listed : Context → Value readdir_args → ℕ → Sight → Result Listing (ListFault Demand)
listed c v directory s =
    listing (readdir_limit (listed_at_most v) c.room)
    (judged_above c (requested c (listed_attributes v)) directory (listed_after v) s)

abbrev pub refused_in : Result Listing (ListFault Demand) → Option Demand
refused_in (Ok given) = None
refused_in (Err (Refused d)) = Some d
refused_in (Err TooSmall) = None

abbrev pub fits_in : Result Listing (ListFault Demand) → Bool
fits_in (Ok given) = true
fits_in (Err (Refused d)) = true
fits_in (Err TooSmall) = false

abbrev pub given_in : Result Listing (ListFault Demand) → Listing
given_in (Ok given) = given
given_in (Err fault) = record { entries = []; eof = false }

-- ---- the operation

-- no name has the cookies 1 and 2
abbrev pub is_cookie : ℕ → Question
is_cookie cookie = Holds (λ s. not ((cookie == 1) || (cookie == 2))) statuses.BadCookie tt

-- no entry is refused: of the demands of the entries, only that of a refused entry writes lines
abbrev pub refuses_none : Context → Value readdir_args → ℕ → Question
refuses_none c v directory = Row (λ s. refused_in (listed c v directory s) ∷ [])

abbrev pub fits_some : Context → Value readdir_args → ℕ → Question
fits_some c v directory = Holds (λ s. fits_in (listed c v directory s)) statuses.TooSmall tt

abbrev pub readdir : Value readdir_args → Context → FileHandles → Meaning
readdir v c h = record {
  number = (row kinds.ReadDir).number;
  caller = c.caller;
  questions = with_handle h.current
      (is_directory (here h)
      ∷ is_cookie (listed_after v)
      ∷ is_readable (requested c (listed_attributes v))
      ∷ first_row h (Known kinds.ReadDir v)
      ∷ refuses_none c v (here h)
      ∷ fits_some c v (here h)
      ∷ []);
  answer = λ s. readdir_outcome (given_in (listed c v (here h) s));
  effect = stays;
  goes = λ s. h;
}
