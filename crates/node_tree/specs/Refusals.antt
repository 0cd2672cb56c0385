-- The reason to refuse a change, if there is one: the first in the order of the standard's operations (RFC 8881,
-- section 18). Each test takes the parts that it reads. So it means the same of a world and of a view of one.
use Rattle.std.specs.Prelude.{ℕ, ◌+◌, ◌^◌, ◌==◌, Bool, true, ◌&&◌, ◌||◌, not, nat_lt, if◌then◌else◌, List, length}
use Rattle.std.specs.Prelude.{Option, Some, None, is_some}
use Rattle.std.specs.Option.{option_map_or, option_or}
use Rattle.acl_list.specs.declared.entry.Kind.{Kind}
use Rattle.node_tree.specs.declared.fault.TreeFault.{TreeFault}
use Rattle.node_tree.specs.declared.fault.TreeFault.TheVariants.{Exist, NoEnt, NotEmpty, Inval, FBig, MLink, NoSpc}
use Rattle.nfs_types.specs.Limits.{Limits}
use Rattle.node_tree.specs.World.{World, child_named, is_one, kind_of, name_count, link_count, has_entries, parent_of}
use Rattle.node_tree.specs.World.{is_directory_in}
use Rattle.node_tree.specs.Ways.{is_met}

-- ---- space

-- whether a counter has a value left
abbrev pub has_left : ℕ → Bool
has_left next = nat_lt next (2 ^ 63)

-- whether a directory with `names` names has room for one more
abbrev pub has_room : Limits → ℕ → Bool
has_room l names = nat_lt names l.names

-- whether there is room for one more object beside `objects` others
abbrev pub has_object_room : Limits → ℕ → Bool
has_object_room l objects = nat_lt objects l.objects

-- whether an object with `links` names may have one more
abbrev pub may_link : Limits → ℕ → Bool
may_link l links = nat_lt links l.links

-- whether a directory with `names` names may have one more
abbrev pub may_name : Limits → (names next_cookie : ℕ) → Bool
may_name l names next_cookie = has_room l names && has_left next_cookie

-- whether a directory with `names` names may have a new object under one more name, beside `objects` other objects
abbrev pub may_add : Limits → (names objects next_number next_stamp next_cookie : ℕ) → Bool
may_add l names objects next_number next_stamp next_cookie =
    has_room l names && has_object_room l objects && has_left next_number && has_left next_stamp && has_left next_cookie

-- ---- moves

-- whether a child is a directory, and another directory is that child or is below it
abbrev pub is_below : (ℕ → Option Kind) → (ℕ → Option ℕ) → (next_number child directory : ℕ) → Bool
is_below kinds parents next_number child directory =
    is_directory_in kinds child && is_met parents next_number child directory

-- Whether a child may replace a target, which may be absent. A directory can replace only an empty directory. Any other
-- object can replace only an object that isn't a directory.
abbrev pub may_replace : (ℕ → Option Kind) → (ℕ → Bool) → ℕ → Option ℕ → Bool
may_replace kinds has_entries child None = true
may_replace kinds has_entries child (Some target) =
    if is_directory_in kinds child then is_directory_in kinds target
    && not (has_entries target) else not (is_directory_in kinds target)

-- Whether there is space for a child's new name in a directory with `names` names; the target may be absent. A
-- directory that loses a name by the move is never too full.
abbrev pub may_move : Limits → (names next_cookie from to : ℕ) → Option ℕ → Bool
may_move l names next_cookie from to None = ((from == to) || has_room l names) && has_left next_cookie
may_move l names next_cookie from to (Some target) = has_left next_cookie

-- ---- refusals

-- CREATE, OPEN
abbrev pub add_refusal : World → ℕ → List ℕ → Option TreeFault
add_refusal w directory name =
    if is_some (child_named w directory name) then Some Exist
    else if may_add w.limits (name_count w.names directory) (length w.objects) w.next_number w.next_stamp w.next_cookie
    then None
    else Some NoSpc

-- LINK
abbrev pub link_refusal : World → ℕ → List ℕ → ℕ → Option TreeFault
link_refusal w directory name number =
    if is_some (child_named w directory name) then Some Exist
    else if not (may_link w.limits (link_count w.names number)) then Some MLink
    else if may_name w.limits (name_count w.names directory) w.next_cookie then None
    else Some NoSpc

-- REMOVE
abbrev pub unlink_refusal : World → ℕ → List ℕ → Option TreeFault
unlink_refusal w directory name =
    option_map_or (λ child. if has_entries w.names child then Some NotEmpty else None) (child_named w directory name)
    (Some NoEnt)

-- both names of a RENAME belong to one object
abbrev pub is_same : World → ℕ → List ℕ → ℕ → List ℕ → Bool
is_same w from old to new = is_one (child_named w from old) (child_named w to new)

-- a child gets the name of a target, which may be absent; space isn't checked
abbrev pub move_refusal : World → (child to : ℕ) → Option ℕ → Option TreeFault
move_refusal w child to target =
    if is_one (Some child) target then None
    else if is_below (kind_of w) (parent_of w) w.next_number child to then Some Inval
    else if may_replace (kind_of w) (has_entries w.names) child target then None
    else Some Exist

-- RENAME, without a check of space
abbrev pub plan_refusal : World → ℕ → List ℕ → ℕ → List ℕ → Option TreeFault
plan_refusal w from old to new =
    option_map_or (λ child. move_refusal w child to (child_named w to new)) (child_named w from old) (Some NoEnt)

-- the refusal of a child's new name for space
abbrev pub space_refusal : World → (from to : ℕ) → Option ℕ → Option TreeFault
space_refusal w from to target =
    if may_move w.limits (name_count w.names to) w.next_cookie from to target then None else Some NoSpc

-- RENAME: between two names of one object it takes no space
abbrev pub rename_refusal : World → ℕ → List ℕ → ℕ → List ℕ → Option TreeFault
rename_refusal w from old to new =
    option_or (plan_refusal w from old to new)
    (if is_same w from old to new then None else space_refusal w from to (child_named w to new))

-- WRITE
abbrev pub write_refusal : Limits → ℕ → List ℕ → Option TreeFault
write_refusal l offset more =
    if nat_lt 0 (length more) && nat_lt l.bytes (offset + length more) then Some FBig else None

-- a size is set (SETATTR, OPEN)
abbrev pub resize_refusal : Limits → ℕ → Option TreeFault
resize_refusal l size = if nat_lt l.bytes size then Some FBig else None
