-- A child that gets a new name (RFC 8881, section 18.26).
use Rattle.std.specs.Prelude.{ℕ, List, Option}

pub record Moving : Type 0 where
  -- the child's directory, and its name in it
  pub from : ℕ
  pub old : List ℕ
  -- the directory of the new name, and the new name
  pub to : ℕ
  pub new : List ℕ
  -- the child, and the target that has the new name, if any
  pub child : ℕ
  pub target : Option ℕ
