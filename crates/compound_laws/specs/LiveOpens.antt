-- The open files of a realm: each is an existing file, within the limit of open files (RFC 8881, sections 18.2, 18.16
-- and 18.25).
use Rattle.std.specs.Prelude.{◌≡◌, ◌≤◌, ◌<◌, ℕ, length, Some, IsSome}
use Rattle.std.specs.List.{AllByRecursion}
use Rattle.acl_list.specs.declared.entry.Kind.TheVariants.{File}
use Rattle.node_tree.specs.World.{World, kind_of}
use Rattle.compound_run.specs.Realm.{Realm}

-- Each name has an existing object, and no object has the next number or a higher one. The object of a name can
-- therefore be opened, and a new object never gets the number of an open file.
pub record IsKept (w : World) : Type 0 where
  pub children_exist : AllByRecursion (λ n. IsSome (kind_of w n.child)) w.names
  pub numbered : (number : ℕ) → IsSome (kind_of w number) → number < w.next_number

-- No open outlives its object: each is of an existing file. The number of opens is within the limit.
pub record OpensHold (r : Realm) : Type 0 where
  pub live : AllByRecursion (λ o. kind_of r.world o.object ≡ Some File) r.opens
  pub few : length r.opens ≤ r.world.limits.opens
  pub kept : IsKept r.world
