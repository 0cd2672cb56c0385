-- The access control list (ACL), the owner and the group of an object whose attributes are set, as the code holds them.
use Rattle.std.specs.Prelude.{◌≡◌, ℕ, ◌||◌, if◌then◌else◌, is_some, unwrap_or, IfSome, Option}
use Rattle.std.specs.Option.{option_map_or}
use Rattle.acl_shape.specs.declared.permissions.Permissions.{Permissions}
use Rattle.acl_shape.specs.Bounds.{IsBounded}
use Rattle.acl_shape.specs.Permissions.{changed_high}
use Rattle.nfs_types.specs.Sent.{Wanted}
use Rattle.node_tree.specs.declared.at.At.{At}
use Rattle.node_tree.specs.World.{World, object}
use Rattle.node_tree.specs.Changes.{with_list, with_owner}
use Rattle.compound_run.specs.Lists.{set_list}

-- the ACL and the high bits that these values set on an object
pub record Permits {A : Type 0} (w : World) (number : ℕ) (wanted : Wanted) (p : Permissions A) : Type 0 where
  pub lists : IfSome (object w number) (λ o. p.list ≡ set_list wanted o.kind o.list)
  pub highs : IfSome (object w number) (λ o. p.high ≡ changed_high o.high wanted.mode)
  pub bounded : IsBounded p.list

-- the world with them, if any
abbrev pub permitted : {A : Type 0} → ℕ → Option (Permissions A) → At → World → World
permitted number made at w = option_map_or (λ p. with_list w number p.list p.high at) made w

-- the world with this owner and this group; one that isn't set stays as it was
abbrev pub entitled : ℕ → Option ℕ → Option ℕ → ℕ × ℕ → At → World → World
entitled number owner group before at w =
    if is_some owner || is_some group
    then with_owner w number (unwrap_or owner before.0) (unwrap_or group before.1) at else w
