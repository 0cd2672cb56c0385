-- The sample tree: in the root a file `notes` and a directory `pub`, each with the access control list of its mode.
use Rattle.std.specs.Prelude.{ℕ, List, [], ◌∷◌, None, codes}
use Rattle.acl_list.specs.declared.entry.Kind.{Kind}
use Rattle.acl_list.specs.declared.entry.Kind.TheVariants.{File, Directory}
use Rattle.acl_shape.specs.Mode.{set_mode}
use Rattle.nfs_types.specs.Limits.{standard}
use Rattle.node_tree.specs.Limits.{ROOT}
use Rattle.node_tree.specs.World.{World, Object}
use Rattle.node_tree.specs.Changes.{new_object, from_start, epoch}

-- an object of the sample: its stamp and its last change are its number
abbrev pub sample_object : ℕ → Kind → List ℕ → ℕ → ℕ → ℕ → Object
sample_object number kind bytes owner group mode =
    new_object kind bytes owner group (set_mode [] kind mode) 0
    (record { stamp = number; at = from_start number; access = None; modify = epoch })

-- modes 0755, 0640 and 0777
abbrev pub sample : World
sample = record {
  limits = standard;
  objects =
      (1, sample_object 1 Directory [] 0 0 0x1ed) ∷ (2, sample_object 2 File (codes "hi") 1001 100 0x1a0)
      ∷ (3, sample_object 3 Directory [] 0 0 0x1ff) ∷ [];
  names = record { cookie = 3; directory = ROOT; name = codes "notes"; child = 2 }
      ∷ record { cookie = 4; directory = ROOT; name = codes "pub"; child = 3 } ∷ [];
  next_number = 4;
  next_tick = 4;
  next_stamp = 4;
  next_cookie = 5;
}
