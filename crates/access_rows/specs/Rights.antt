-- The result of ACCESS (RFC 8881, section 18.1).
use Rattle.std.specs.Prelude.{◌≡◌, ◌≤◌, ℕ, Bool, false, ◌==◌, ◌&&◌, ◌||◌, if◌then◌else◌, bit_and, bit_or}
use Rattle.acl_list.specs.Mask.{has_bit}
use Rattle.acl_list.specs.Places.{read_data, write_data, append_data, execute, delete_child}
use Rattle.acl_list.specs.declared.mask.TheConstants as mask
use Rattle.acl_list.specs.declared.entry.Kind.{Kind}
use Rattle.acl_list.specs.declared.entry.Kind.TheVariants.{File, Directory, Link}
use Rattle.access_rows.specs.declared.rights.Rights.{Rights}

-- the rights that are supported for the type: READ 1, LOOKUP 2, MODIFY 4, EXTEND 8, DELETE 16, EXECUTE 32
abbrev pub meaningful : Kind → ℕ
meaningful File = 0x2d
meaningful Directory = 0x1f
meaningful Link = 0x01

-- a right, if it is supported and the mask bit that it needs is granted
abbrev pub right : ℕ → ℕ → ℕ → ℕ → ℕ
right supported r grants bit = if (bit_and supported r == 0) || (bit_and grants bit == 0) then 0 else r

-- READ needs READ_DATA, LOOKUP needs EXECUTE, MODIFY needs WRITE_DATA, EXTEND needs APPEND_DATA, DELETE needs
-- DELETE_CHILD, EXECUTE needs EXECUTE
abbrev pub granted_rights : ℕ → ℕ → ℕ
granted_rights supported grants =
    bit_or (bit_or (bit_or (bit_or (bit_or
    (right supported 0x01 grants mask.READ_DATA) (right supported 0x02 grants mask.EXECUTE))
    (right supported 0x04 grants mask.WRITE_DATA)) (right supported 0x08 grants mask.APPEND_DATA))
    (right supported 0x10 grants mask.DELETE_CHILD)) (right supported 0x20 grants mask.EXECUTE)

abbrev pub rights_of : Kind → ℕ → ℕ → Rights
rights_of kind asked grants =
    record {
      supported = bit_and asked (meaningful kind);
      granted = granted_rights (bit_and asked (meaningful kind)) grants;
    }

-- A right is in the granted word if and only if it is supported and the mask bit that it needs is allowed. The word has
-- no other bit.
pub record RightsAre (allows : ℕ → Bool) (supported granted : ℕ) : Type 0 where
  pub read : has_bit granted 0 ≡ has_bit supported 0 && allows read_data
  pub lookup : has_bit granted 1 ≡ has_bit supported 1 && allows execute
  pub modify : has_bit granted 2 ≡ has_bit supported 2 && allows write_data
  pub extend : has_bit granted 3 ≡ has_bit supported 3 && allows append_data
  pub delete : has_bit granted 4 ≡ has_bit supported 4 && allows delete_child
  pub execution : has_bit granted 5 ≡ has_bit supported 5 && allows execute
  pub others : (place : ℕ) → 6 ≤ place → has_bit granted place ≡ false
