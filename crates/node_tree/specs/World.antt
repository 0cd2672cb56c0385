-- The world of a file server: objects by number, names by cookie, and the counters (RFC 8881, sections 4.2, 5.8 and
-- 18.23). An object has no path. A directory holds no names itself: they are kept beside the objects.
use Rattle.std.specs.Prelude.{◌≡◌, ℕ, Bool, true, false, ◌==◌, ◌&&◌, nat_lt, nat_eq, if◌then◌else◌, List, [], length}
use Rattle.std.specs.Prelude.{count_by, filter, find, take, drop, Option, Some, None}
use Rattle.std.specs.List.{list_any}
use Rattle.std.specs.Option.{option_map, option_map_or}
use Rattle.std.specs.Map.{lookup}
use Rattle.std.specs.BTreeMap.{is_at}
use Rattle.std.specs.Ordering.{nat_cmp}
use Rattle.std.specs.Cmp.Lexicographic.{pointwise}
use Rattle.acl_list.specs.declared.entry.Entry.{Entry}
use Rattle.acl_list.specs.declared.entry.Kind.{Kind}
use Rattle.acl_list.specs.declared.entry.Kind.TheVariants as kinds
use Rattle.acl_shape.specs.Inherited.{is_directory}
use Rattle.nfs_types.specs.declared.moment.Moment.{Moment}
use Rattle.nfs_types.specs.Limits.{Limits}

pub record Object : Type 0 where
  pub kind : Kind
  -- the bytes of a file, or the text of a symbolic link
  pub bytes : List ℕ
  pub owner : ℕ
  pub group : ℕ
  pub list : List Entry
  -- the bits 07000 of the mode, which the access control list (ACL) doesn't represent
  pub high : ℕ
  -- the tick of the last change
  pub change : ℕ
  -- the time of the last access. None: it is time_modify, as always in the standard profile.
  pub time_access : Option Moment
  pub time_modify : Moment
  pub time_metadata : Moment
  -- the stamp, which changes whenever the ACL, the owner or the group is set
  pub stamp : ℕ

-- a child under a name in a directory
pub record Name : Type 0 where
  pub cookie : ℕ
  pub directory : ℕ
  pub name : List ℕ
  pub child : ℕ

-- objects by rising number, names by rising cookie, and the limits, which never change
pub record World : Type 0 where
  pub limits : Limits
  pub objects : List (ℕ × Object)
  pub names : List Name
  pub next_number : ℕ
  pub next_tick : ℕ
  pub next_stamp : ℕ
  pub next_cookie : ℕ

-- ---- objects

-- the object of a number
abbrev pub object : World → ℕ → Option Object
object w number = lookup (is_at (nat_cmp number)) w.objects

abbrev pub kind_of : World → ℕ → Option Kind
kind_of w number = option_map (λ o. o.kind) (object w number)

-- whether the number is a directory's, by the types of objects
abbrev pub is_directory_in : (ℕ → Option Kind) → ℕ → Bool
is_directory_in kinds number = option_map_or is_directory (kinds number) false

abbrev pub is_directory_at : World → ℕ → Bool
is_directory_at w number = is_directory_in (kind_of w) number

abbrev pub is_file : Kind → Bool
is_file kinds.File = true
is_file kinds.Directory = false
is_file kinds.Link = false

-- whether the number is a file's
abbrev pub is_file_at : World → ℕ → Bool
is_file_at w number = option_map_or is_file (kind_of w number) false

-- the bytes of a file, or the text of a symbolic link
abbrev pub bytes_of : World → ℕ → List ℕ
bytes_of w number = option_map_or (λ o. o.bytes) (object w number) []

-- the bytes at an offset
abbrev pub bytes_at : World → ℕ → ℕ → ℕ → List ℕ
bytes_at w number offset count = take count (drop offset (bytes_of w number))

-- ---- names

-- whether this is the name in the directory
abbrev pub is_named : ℕ → List ℕ → Name → Bool
is_named directory name n = (n.directory == directory) && pointwise nat_eq n.name name

-- the names in a directory, by rising cookie
abbrev pub names_in : List Name → ℕ → List Name
names_in names directory = filter (λ n. n.directory == directory) names

-- the child of a name, given the names in a directory
abbrev pub child_in : List Name → List ℕ → Option ℕ
child_in names name = option_map (λ n. n.child) (find (λ n. pointwise nat_eq n.name name) names)

-- the child of a name in a directory
abbrev pub child_named : World → ℕ → List ℕ → Option ℕ
child_named w directory name = child_in (names_in w.names directory) name

-- whether two names belong to one object, given the child of each
abbrev pub is_one : Option ℕ → Option ℕ → Bool
is_one (Some child) (Some target) = child == target
is_one (Some child) None = false
is_one None target = false

-- the next name of a directory, by rising cookie
abbrev pub name_after : World → ℕ → ℕ → Option Name
name_after w directory cookie = find (λ n. (n.directory == directory) && nat_lt cookie n.cookie) w.names

-- a name that is found by its cookie is any name that a directory lists with this cookie
abbrev pub FindsAgain : World → ℕ → Option Name → Type 0
FindsAgain w cookie found =
    (directory last : ℕ) (n : Name) → name_after w directory last ≡ Some n → n.cookie ≡ cookie → found ≡ Some n

-- how many names a directory has
abbrev pub name_count : List Name → ℕ → ℕ
name_count names directory = length (names_in names directory)

-- whether a directory has names
abbrev pub has_entries : List Name → ℕ → Bool
has_entries names directory = list_any (λ n. n.directory == directory) names

-- how many names an object has
abbrev pub link_count : List Name → ℕ → ℕ
link_count names number = count_by (λ n. n.child == number) names

-- whether an object has a name
abbrev pub has_name : List Name → ℕ → Bool
has_name names number = list_any (λ n. n.child == number) names

-- the parent of a directory
abbrev pub parent_of : World → ℕ → Option ℕ
parent_of w number =
    if is_directory_at w number then option_map (λ n. n.directory) (find (λ n. n.child == number) w.names) else None
