-- The changes of the world (RFC 8881, sections 5.8, 18.4, 18.9, 18.25, 18.26, 18.30 and 18.32). A change takes a tick,
-- and each object that it changes gets the tick. The changes of one operation share it.
use Rattle.std.specs.Prelude.{ℕ, pos, ◌+◌, ◌-◌, not, ◌&&◌, nat_le, nat_lt, if◌then◌else◌, max, List, [], ◌∷◌, ◌++◌}
use Rattle.std.specs.Prelude.{length, map, filter, take, replicate, slice_index, Option, Some, None, unwrap_or}
use Rattle.std.proofs.Common.{lit<}
use Rattle.std.specs.List.{range_with_len}
use Rattle.std.specs.Option.{option_or, option_map_or}
use Rattle.std.specs.Map.{lookup, set_value}
use Rattle.std.specs.BTreeMap.{is_at, insert_entry}
use Rattle.std.specs.Ordering.{nat_cmp}
use Rattle.acl_list.specs.declared.entry.Entry.{Entry}
use Rattle.acl_list.specs.declared.entry.Kind.{Kind}
use Rattle.acl_list.specs.declared.entry.Kind.TheVariants.{Directory}
use Rattle.nfs_types.specs.declared.moment.Moment.{Moment}
use Rattle.node_tree.specs.declared.at.At.{At}
use Rattle.node_tree.specs.declared.node.NewObject.{NewObject}
use Rattle.nfs_types.specs.Limits.{Limits}
use Rattle.node_tree.specs.World.{World, Object, Name, child_named, is_one, is_named, has_name}

-- ---- objects

-- the objects after a change f of the object of a number
abbrev pub changed : ℕ → (Object → Object) → List (ℕ × Object) → List (ℕ × Object)
changed number f objects =
    option_map_or (λ o. set_value (is_at (nat_cmp number)) objects (f o))
    (lookup (is_at (nat_cmp number)) objects) objects

-- the objects of other numbers
abbrev pub without : ℕ → List (ℕ × Object) → List (ℕ × Object)
without number objects = filter (λ e. not (is_at (nat_cmp number) e.0)) objects

-- a change of bytes, of a size or of a directory's names
abbrev pub touched : At → Object → Object
touched at o = record o { change = at.tick; time_modify = at.moment; time_metadata = at.moment }

-- a change of an access control list (ACL), an owner, a group, times or the number of names, or a move
abbrev pub retold : At → Object → Object
retold at o = record o { change = at.tick; time_metadata = at.moment }

-- how an object is made: its stamp, its tick and moment, and its first times of the last access and of the last change
-- of its content
pub record Birth : Type 0 where
  pub stamp : ℕ
  pub at : At
  -- None: it is time_modify
  pub access : Option Moment
  pub modify : Moment

-- a new object, of this type, bytes, owner, group, ACL and high bits of the mode
abbrev pub new_object : Kind → List ℕ → ℕ → ℕ → List Entry → ℕ → Birth → Object
new_object kind bytes owner group list high birth = record {
  kind = kind;
  bytes = bytes;
  owner = owner;
  group = group;
  list = list;
  high = high;
  change = birth.at.tick;
  time_access = birth.access;
  time_modify = birth.modify;
  time_metadata = birth.at.moment;
  stamp = birth.stamp;
}

abbrev pub made : {A : Type 0} → NewObject A → ℕ → At → Object
made new stamp at =
    new_object new.kind new.bytes.items new.owner new.group new.list new.high
    (record { stamp = stamp; at = at; access = new.time_access; modify = new.time_modify })

-- the first time of the last access, which only some profiles keep beside time_modify
abbrev pub first_access : Limits → Moment → Option Moment
first_access l m = if l.times then Some m else None

-- ---- a new tree

-- the moment of the initial objects
abbrev pub epoch : Moment
epoch = record { seconds = pos 0; nanoseconds = 0; is_fraction = lit< tt }

-- the tick and the moment of an initial object: its moment is the epoch
abbrev pub from_start : ℕ → At
from_start tick = record { tick = tick; moment = epoch }

-- a new root, under these limits
abbrev pub root_of : Limits → ℕ → ℕ → List Entry → ℕ → Object
root_of limits owner group list high =
    new_object Directory [] owner group list high
    (record { stamp = 1; at = from_start 1; access = first_access limits epoch; modify = epoch })

-- a root alone
abbrev pub alone : Limits → Object → World
alone limits root = record {
  limits = limits;
  objects = (1, root) ∷ [];
  names = [];
  next_number = 2;
  next_tick = 2;
  next_stamp = 2;
  next_cookie = 3;
}

-- ---- changes

-- a change takes a tick
abbrev pub ticked : World → At → World
ticked w at = record w { next_tick = at.tick + 1 }

-- ---- names

-- a new name of a child, with the next cookie
abbrev pub given_name : World → ℕ → List ℕ → ℕ → Name
given_name w directory name child = record { cookie = w.next_cookie; directory = directory; name = name; child = child }

-- the names without this name
abbrev pub other_names : ℕ → List ℕ → List Name → List Name
other_names directory name names = filter (λ n. not (is_named directory name n)) names

-- An object has lost a name. It is removed if that was its last name.
abbrev pub released : List Name → ℕ → At → List (ℕ × Object) → List (ℕ × Object)
released names number at objects =
    if has_name names number then changed number (retold at) objects else without number objects

-- a new object under a new name (CREATE, OPEN)
abbrev pub with_new : World → ℕ → List ℕ → Object → At → World
with_new w directory name o at =
    record (ticked w at) {
      objects = changed directory (touched at) (insert_entry nat_cmp w.objects w.next_number o);
      names = w.names ++ given_name w directory name w.next_number ∷ [];
      next_number = w.next_number + 1;
      next_stamp = w.next_stamp + 1;
      next_cookie = w.next_cookie + 1;
    }

-- another name for an object (LINK)
abbrev pub with_link : World → ℕ → List ℕ → ℕ → At → World
with_link w directory name number at = record (ticked w at) {
  objects = changed directory (touched at) (changed number (retold at) w.objects);
  names = w.names ++ given_name w directory name number ∷ [];
  next_cookie = w.next_cookie + 1;
}

-- without the name of a child, and without the child if that was its last name (REMOVE)
abbrev pub without_name : World → ℕ → List ℕ → ℕ → At → World
without_name w directory name child at =
    let names = other_names directory name w.names in
    record (ticked w at) {
      objects = changed directory (touched at) (released names child at w.objects);
      names = names;
    }

abbrev pub unlinked : World → ℕ → List ℕ → At → World
unlinked w directory name at =
    option_map_or (λ child. without_name w directory name child at) (child_named w directory name) w

-- with a new name of a child in place of another one; a target of the new name loses it (RENAME)
abbrev pub with_move : World → ℕ → List ℕ → Name → Option ℕ → At → World
with_move w from old n target at =
    let names = other_names n.directory n.name (other_names from old w.names) in
    record (ticked w at) {
      objects =
          changed n.directory (touched at)
          (changed from (touched at)
          (changed n.child (retold at) (option_map_or (λ t. released names t at w.objects) target w.objects)));
      names = names ++ n ∷ [];
      next_cookie = w.next_cookie + 1;
    }

-- between two names of one object nothing changes
abbrev pub renamed : World → ℕ → List ℕ → ℕ → List ℕ → At → World
renamed w from old to new at =
    let target = child_named w to new in
    if is_one (child_named w from old) target then w
    else option_map_or (λ child. with_move w from old (given_name w to new child) target at) (child_named w from old) w

-- ---- bytes

-- each byte of the data in their range, else the old byte, else 0
abbrev pub written : List ℕ → ℕ → List ℕ → List ℕ
written bytes offset more =
    map
    (λ i. if nat_le offset i && nat_lt i (offset + length more) then slice_index more (i - offset)
    else slice_index bytes i)
    (range_with_len 0 (max (length bytes) (offset + length more)))

-- bytes are written into a file
abbrev pub with_bytes : World → ℕ → ℕ → List ℕ → At → World
with_bytes w file offset more at = record (ticked w at) {
  objects = changed file (λ o. touched at (record o { bytes = written o.bytes offset more })) w.objects;
}

-- no bytes change nothing (WRITE)
abbrev pub with_write : World → ℕ → ℕ → List ℕ → At → World
with_write w file offset [] at = w
with_write w file offset (byte ∷ more) at = with_bytes w file offset (byte ∷ more) at

-- the first bytes, followed by zeros if they are too few
abbrev pub resized : List ℕ → ℕ → List ℕ
resized bytes size = take size bytes ++ replicate (size - length bytes) 0

-- a size is set, also to the file's own size (SETATTR, OPEN)
abbrev pub with_size : World → ℕ → ℕ → At → World
with_size w file size at = record (ticked w at) {
  objects = changed file (λ o. touched at (record o { bytes = resized o.bytes size })) w.objects;
}

-- ---- the ACL, owner, group and times of an object

-- an ACL is set, with the high bits of the mode (SETATTR)
abbrev pub with_list : World → ℕ → List Entry → ℕ → At → World
with_list w number list high at = record (ticked w at) {
  objects = changed number (λ o. retold at (record o { list = list; high = high; stamp = w.next_stamp })) w.objects;
  next_stamp = w.next_stamp + 1;
}

-- an owner and a group are set (SETATTR)
abbrev pub with_owner : World → ℕ → ℕ → ℕ → At → World
with_owner w number owner group at = record (ticked w at) {
  objects = changed number (λ o. retold at (record o { owner = owner; group = group; stamp = w.next_stamp })) w.objects;
  next_stamp = w.next_stamp + 1;
}

-- times are set, those that are given (SETATTR)
abbrev pub with_times : World → ℕ → Option Moment → Option Moment → At → World
with_times w number access modify at = record (ticked w at) {
  objects =
      changed number
      (λ o. retold at (record o {
        time_access = option_or access o.time_access;
        time_modify = unwrap_or modify o.time_modify;
      }))
      w.objects;
}
