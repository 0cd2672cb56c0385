-- A LOOKUP that reveals whether a name exists before EXECUTE is checked, and two worlds that it distinguishes (RFC
-- 8881, section 18.13).
use Rattle.std.specs.Prelude.{ℕ, List, [], ◌∷◌, None}
use Rattle.acl_list.specs.declared.entry.Kind.{Kind}
use Rattle.acl_list.specs.declared.entry.Kind.TheVariants.{File, Directory}
use Rattle.nfs_types.specs.Limits.{standard}
use Rattle.node_tree.specs.World.{World, Object}
use Rattle.node_tree.specs.Changes.{epoch, new_object, from_start}

-- an object with an empty access control list, which grants nothing
abbrev pub closed : ℕ → Kind → Object
closed number kind =
    new_object kind [] 0 0 [] 0 (record { stamp = number; at = from_start number; access = None; modify = epoch })

-- a root, and in it a file of this name
abbrev pub with_name : List ℕ → World
with_name name = record {
  limits = standard;
  objects = (1, closed 1 Directory) ∷ (2, closed 2 File) ∷ [];
  names = record { cookie = 3; directory = 1; name = name; child = 2 } ∷ [];
  next_number = 3;
  next_tick = 3;
  next_stamp = 3;
  next_cookie = 4;
}

-- a name other than this one
abbrev pub longer : List ℕ → List ℕ
longer name = 0 ∷ name
