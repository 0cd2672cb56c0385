-- A tree that is restored from a checkpoint. The checkpoint has the tree's counters, its objects by rising number and
-- its names by rising cookie, each object before its names.
use Rattle.std.specs.Prelude.{ℕ, zero, suc, ◌+◌, ◌^◌, ◌≤◌, ◌≡◌, ◌≢◌, ◌==◌, Bool, false, ◌&&◌, ◌||◌, not, nat_le}
use Rattle.std.specs.Prelude.{nat_lt, if◌then◌else◌, List, [], ◌∷◌, ◌++◌, length, map, Option, Some, is_some, IsSome}
use Rattle.std.specs.List.{list_any, list_all}
use Rattle.std.specs.Option.{option_map_or}
use Rattle.std.specs.Ordering.{nat_cmp}
use Rattle.std.specs.BTreeMap.{is_at}
use Rattle.acl_list.specs.declared.entry.Kind.{Kind}
use Rattle.acl_list.specs.declared.entry.Kind.TheVariants.{Directory}
use Rattle.acl_shape.specs.Bounds.{fits}
use Rattle.node_tree.specs.declared.node.NewObject.{NewObject}
use Rattle.node_tree.specs.declared.node.Kept.{Kept}
use Rattle.nfs_types.specs.Limits.{Limits, IsAllowed}
use Rattle.node_tree.specs.Limits.{ROOT, MAX_NAME}
use Rattle.node_tree.specs.World.{World, Object, Name, object, kind_of, child_named, is_directory_at, has_name}
use Rattle.node_tree.specs.World.{name_count, link_count, parent_of, is_file_at, bytes_of}
use Rattle.node_tree.specs.Changes.{changed, written}
use Rattle.node_tree.specs.Refusals.{has_room, may_link}
use Rattle.node_tree.specs.Sound.{IsIn, IsStamped, IsFit, IsLimited, IsCounted, Rises, stamp_of, most_bytes}

-- the world restored so far, with the least number and the least cookie that may come next
pub record Begun : Type 0 where
  pub world : World
  pub number : ℕ
  pub cookie : ℕ

-- an object as a checkpoint has it
abbrev pub kept_object : {A : Type 0} → NewObject A → Kept → Object
kept_object new kept = record {
  kind = new.kind;
  bytes = new.bytes.items;
  owner = new.owner;
  group = new.group;
  list = new.list;
  high = new.high;
  change = kept.change;
  time_access = kept.time_access;
  time_modify = kept.time_modify;
  time_metadata = kept.time_metadata;
  stamp = kept.stamp;
}

-- ---- steps

-- no objects and no names
abbrev pub begun : Limits → (next_number next_tick next_stamp next_cookie : ℕ) → Begun
begun limits next_number next_tick next_stamp next_cookie = record {
  world = record {
    limits = limits;
    objects = [];
    names = [];
    next_number = next_number;
    next_tick = next_tick;
    next_stamp = next_stamp;
    next_cookie = next_cookie;
  };
  number = ROOT;
  cookie = 3;
}

abbrev pub put_object : World → ℕ → Object → World
put_object w number o = record w { objects = w.objects ++ (number, o) ∷ [] }

abbrev pub put_name : World → Name → World
put_name w n = record w { names = w.names ++ n ∷ [] }

-- further bytes of a file, after zeros up to their offset
abbrev pub put_more : World → ℕ → ℕ → List ℕ → World
put_more w number offset more =
    record w { objects = changed number (λ o. record o { bytes = written o.bytes offset more }) w.objects }

abbrev pub with_object : Begun → ℕ → Object → Begun
with_object b number o = record { world = put_object b.world number o; number = number + 1; cookie = b.cookie }

abbrev pub with_name : Begun → Name → Begun
with_name b n = record { world = put_name b.world n; number = b.number; cookie = n.cookie + 1 }

abbrev pub with_more : Begun → ℕ → ℕ → List ℕ → Begun
with_more b number offset more =
    record { world = put_more b.world number offset more; number = b.number; cookie = b.cookie }

-- ---- tests

-- whether some tree has these counters
abbrev pub counters_fit : (next_number next_tick next_stamp next_cookie : ℕ) → Bool
counters_fit next_number next_tick next_stamp next_cookie =
    nat_le ROOT next_number && nat_le 3 next_cookie && nat_le next_number (2 ^ 63) && nat_le next_tick (2 ^ 63)
    && nat_le next_stamp (2 ^ 63) && nat_le next_cookie (2 ^ 63)

-- whether an object has the stamp
abbrev pub has_stamp : List (ℕ × Object) → ℕ → Bool
has_stamp objects stamp = list_any (λ e. stamp == e.1.stamp) objects

-- whether the object is within its limits
abbrev pub is_fit : Limits → (next_tick next_stamp : ℕ) → Object → Bool
is_fit l next_tick next_stamp o =
    nat_le (length o.bytes) (most_bytes l o.kind) && fits o.list && nat_lt o.change next_tick
    && nat_lt o.stamp next_stamp

-- whether an object may come next
abbrev pub object_fits : Begun → ℕ → Object → Bool
object_fits b number o =
    (nat_le b.number number && nat_lt number b.world.next_number
    && nat_lt (length b.world.objects) b.world.limits.objects)
    && (is_fit b.world.limits b.world.next_tick b.world.next_stamp o && not (has_stamp b.world.objects o.stamp))

-- whether further bytes may come: of a file, at its end or after it, within the limit
abbrev pub more_fits : Begun → ℕ → ℕ → List ℕ → Bool
more_fits b number offset more =
    is_file_at b.world number
    && (nat_le (length (bytes_of b.world number)) offset && nat_le (offset + length more) b.world.limits.bytes)

-- whether the object may have one more name: a directory only one
abbrev pub child_fits : World → ℕ → Bool
child_fits w child =
    if is_directory_at w child then not (has_name w.names child) else is_some (object w child)
    && may_link w.limits (link_count w.names child)

-- whether a name may come next
abbrev pub name_fits : Begun → Name → Bool
name_fits b n =
    (nat_le b.cookie n.cookie && nat_lt n.cookie b.world.next_cookie && nat_le (length n.name) MAX_NAME)
    && (not (n.child == ROOT) && child_fits b.world n.child)
    && (is_directory_at b.world n.directory && has_room b.world.limits (name_count b.world.names n.directory)
    && not (is_some (child_named b.world n.directory n.name)))

-- whether the way up reaches the root in fewer than this number of steps
unfoldable pub climbs_to_root : (ℕ → Option ℕ) → ℕ → ℕ → Bool
climbs_to_root parents zero from = false
climbs_to_root parents (suc steps) from =
    (from == ROOT) || option_map_or (λ parent. climbs_to_root parents steps parent) (parents from) false

-- whether the object has a place in the tree
abbrev pub is_placed : World → ℕ → Bool
is_placed w number =
    if is_directory_at w number then climbs_to_root (parent_of w) (length w.objects) number else has_name w.names number

-- whether a root exists, and each object has a place
abbrev pub is_whole : World → Bool
is_whole w = is_directory_at w ROOT && list_all (is_placed w) (map (λ e. e.0) w.objects)

-- ---- the invariant meanwhile

-- the names belong to existing objects; some objects may not have their names yet
pub record IsHung (kinds : ℕ → Option Kind) (names : List Name) : Type 0 where
  pub root_has_no_name : (n : Name) → IsIn n names → n.child ≢ ROOT
  pub ends : (n : Name) → IsIn n names → (kinds n.directory ≡ Some Directory) × IsSome (kinds n.child)
  pub one_child : (m n : Name) → IsIn m names → IsIn n names → m.directory ≡ n.directory → m.name ≡ n.name → m ≡ n
  pub one_parent : (m n : Name) → IsIn m names → IsIn n names → m.child ≡ n.child → kinds n.child ≡ Some Directory
      → m ≡ n

-- the world restored so far, with its numbers and its stamps
pub record IsBegun (w : World) (number cookie : ℕ) (numbers stamps : List ℕ) : Type 0 where
  pub hung : IsHung (kind_of w) w.names
  pub stamped : IsStamped (stamp_of w) w.next_stamp
  pub numbered : Rises (λ e. e.0) ROOT w.objects number
  pub listed : Rises (λ n. n.cookie) 3 w.names cookie
  pub numbers_left : number ≤ w.next_number
  pub cookies_left : cookie ≤ w.next_cookie
  pub few : length w.objects ≤ w.limits.objects
  pub fit : (number : ℕ) (o : Object) → object w number ≡ Some o → IsFit w.limits w.next_tick o
  pub limited : IsLimited w.limits w.names
  pub counted : IsCounted w
  pub allowed : IsAllowed w.limits
  pub numbers_are : numbers ≡ map (λ e. e.0) w.objects
  pub stamps_are : (s : ℕ) → list_any (is_at (nat_cmp s)) stamps ≡ has_stamp w.objects s
