-- An operation's sight of the realm, part by part. The parts that access control lists (ACLs) govern are present as far
-- as they may be seen. The questions, result and lines of an operation are functions of a sight. One definition
-- therefore serves for the whole realm and for a caller's view. No operation after a SEQUENCE sees sessions, their
-- slots, or the numbers of the next client and session.
use Rattle.std.specs.Prelude.{ℕ, Bool, true, ◌||◌, if◌then◌else◌, List, [], length, unwrap_or, Option, None}
use Rattle.std.specs.Option.{option_map, option_map_or}
use Rattle.std.specs.Map.{lookup}
use Rattle.std.specs.BTreeMap.{is_at}
use Rattle.std.specs.Ordering.{nat_cmp}
use Rattle.rpc_record.specs.Identity.{Identity}
use Rattle.acl_list.specs.declared.entry.Kind.{Kind}
use Rattle.acl_list.specs.declared.entry.Kind.TheVariants.{File}
use Rattle.acl_list.specs.declared.mask.TheConstants.{READ_DATA, LIST_DIRECTORY, EXECUTE, READ_ATTRIBUTES}
use Rattle.acl_shape.specs.Inherited.{is_directory}
use Rattle.nfs_types.specs.declared.moment.Moment.{Moment}
use Rattle.nfs_types.specs.Limits.{Limits}
use Rattle.node_tree.specs.World.{World, Object, Name, object, kind_of, bytes_of, link_count, has_entries, parent_of}
use Rattle.node_tree.specs.World.{names_in, child_in}
use Rattle.node_tree.specs.Judged.{judged_of}
use Rattle.access_rows.specs.declared.demand.Demand.TheVariants.{Bits}
use Rattle.access_guard.specs.Lists.{Lists}
use Rattle.access_guard.specs.Decisions.{decision, is_granted}
use Rattle.session_slots.specs.Registry.{Client}
use Rattle.compound_run.specs.Realm.{Realm, Opened}

-- The parts that READ_ATTRIBUTES governs. Of a directory it governs all of them but the change attribute.
pub record Details : Type 0 where
  pub high : ℕ
  pub change : ℕ
  pub time_access : Moment
  pub time_modify : Moment
  pub time_metadata : Moment

pub record Sight : Type 0 where
  -- Every caller sees these parts. Of an object: its type, its ACL, owner and group, and its name count. Of a file or a
  -- link's text: the byte count. Of a directory: whether it has names, its parent, and its change attribute. Besides:
  -- the limits, the object count and the counters.
  pub kinds : ℕ → Option Kind
  pub sizes : ℕ → ℕ
  pub lists : Lists
  pub links : ℕ → ℕ
  pub has_entries : ℕ → Bool
  pub parents : ℕ → Option ℕ
  pub changes : ℕ → ℕ
  pub limits : Limits
  pub object_count : ℕ
  pub next_number : ℕ
  pub next_tick : ℕ
  pub next_stamp : ℕ
  pub next_cookie : ℕ
  -- the open files, the clients, and whether their sessions are persistent
  pub opens : List Opened
  pub next_open : ℕ
  pub clients : List (ℕ × Client)
  pub lasting : Bool
  -- the bytes of a file, or the text of a symbolic link
  pub bytes : ℕ → List ℕ
  -- the names of a directory, by rising cookie
  pub names : ℕ → List Name
  pub details : ℕ → Option Details

abbrev pub details_of : Object → Details
details_of o = record {
  high = o.high;
  change = o.change;
  time_access = unwrap_or o.time_access o.time_modify;
  time_modify = o.time_modify;
  time_metadata = o.time_metadata;
}

-- the change attribute of a directory
abbrev pub directory_change : World → ℕ → ℕ
directory_change w number = option_map_or (λ o. if is_directory o.kind then o.change else 0) (object w number) 0

-- the sight of a realm, given which mask bits of each object are granted
abbrev pub sight : (ℕ → ℕ → Bool) → Realm → Sight
sight gives r = let w = r.world in record {
  kinds = kind_of w;
  sizes = λ number. length (bytes_of w number);
  lists = judged_of w;
  links = link_count w.names;
  has_entries = has_entries w.names;
  parents = parent_of w;
  changes = directory_change w;
  limits = w.limits;
  object_count = length w.objects;
  next_number = w.next_number;
  next_tick = w.next_tick;
  next_stamp = w.next_stamp;
  next_cookie = w.next_cookie;
  opens = r.opens;
  next_open = r.next_open;
  clients = r.registry.clients;
  lasting = r.lasting;
  bytes = λ number. if gives number READ_DATA then bytes_of w number else [];
  names = λ number. if gives number EXECUTE || gives number LIST_DIRECTORY then names_in w.names number else [];
  details = λ number. if gives number READ_ATTRIBUTES then option_map details_of (object w number) else None;
}

-- the whole realm
abbrev pub whole : Realm → Sight
whole r = sight (λ number mask. true) r

-- whether the ACL of an object grants the caller these mask bits
abbrev pub gives : World → Identity → ℕ → ℕ → Bool
gives w caller number mask = is_granted (decision (judged_of w) caller (Bits number mask))

-- the sight of a caller
abbrev pub view : Realm → Identity → Sight
view r caller = sight (gives r.world caller) r

-- ---- parts of a sight

-- the type of an object that exists
abbrev pub kind_at : Sight → ℕ → Kind
kind_at s number = unwrap_or (s.kinds number) File

-- the child of a name in a directory
abbrev pub child : Sight → ℕ → List ℕ → Option ℕ
child s directory name = child_in (s.names directory) name

-- the record of a client
abbrev pub client_in : Sight → ℕ → Option Client
client_in s number = lookup (is_at (nat_cmp number)) s.clients
