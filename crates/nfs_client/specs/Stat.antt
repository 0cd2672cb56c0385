-- Some attributes of an object, read from what a server returned (RFC 8881, section 3.3.9).
use Rattle.std.specs.Prelude.{◌≡◌, ◌==◌, ◌||◌, ℕ, Bool, if◌then◌else◌, List, [], ◌∷◌, Option, Some, None, Ok}
use Rattle.std.specs.Prelude.{Err}
use Rattle.xdr_wire.specs.Xdr.{Value, uint, hyper}
use Rattle.xdr_wire.specs.Reading.{◌>>=◌, Read}
use Rattle.nfs_types.specs.Attributes.{text, is_within}
use Rattle.nfs_types.specs.Forms.{time}
use Rattle.nfs_types.specs.Sent.{chosen_at}
use Rattle.nfs_types.specs.Sets.{has_number}

-- the values, each if it was returned
pub record StatValues : Type 0 where
  pub kind : Option ℕ
  pub change : Option ℕ
  pub size : Option ℕ
  pub number : Option ℕ
  pub mode : Option ℕ
  pub links : Option ℕ
  pub owner : Option (List ℕ)
  pub group : Option (List ℕ)
  pub changed : Option (Value time)
  pub modified : Option (Value time)

-- 1 type, 3 change, 4 size, 20 fileid, 33 mode, 35 numlinks, 36 owner, 37 owner_group, 52 time_metadata, 53 time_modify
abbrev pub is_of_stat : ℕ → Bool
is_of_stat n =
    (n == 1) || (n == 3) || (n == 4) || (n == 20) || (n == 33) || (n == 35) || (n == 36) || (n == 37) || (n == 52)
    || (n == 53)

-- the set of these attributes
abbrev pub AreOfStat : List ℕ → Type 0
AreOfStat set = (n : ℕ) → has_number set n ≡ is_of_stat n

-- one value after the other, by rising number
abbrev pub stat_at : List ℕ → List ℕ → Read StatValues
stat_at set bytes =
    chosen_at (has_number set 1) uint bytes >>= λ a.
    chosen_at (has_number set 3) hyper a.1 >>= λ b.
    chosen_at (has_number set 4) hyper b.1 >>= λ c.
    chosen_at (has_number set 20) hyper c.1 >>= λ d.
    chosen_at (has_number set 33) uint d.1 >>= λ e.
    chosen_at (has_number set 35) uint e.1 >>= λ f.
    chosen_at (has_number set 36) text f.1 >>= λ g.
    chosen_at (has_number set 37) text g.1 >>= λ h.
    chosen_at (has_number set 52) time h.1 >>= λ i.
    chosen_at (has_number set 53) time i.1 >>= λ j.
    Ok (
      record {
        kind = a.0;
        change = b.0;
        size = c.0;
        number = d.0;
        mode = e.0;
        links = f.0;
        owner = g.0;
        group = h.0;
        changed = i.0;
        modified = j.0;
      },
      j.1,
    )

-- no bytes follow the values
abbrev pub whole : Read StatValues → Option StatValues
whole (Ok (stat, [])) = Some stat
whole (Ok (stat, b ∷ bytes)) = None
whole (Err fault) = None

-- The values that the bytes encode, all of the bytes, of a set that has only these attributes.
abbrev pub stat_of : List ℕ → List ℕ × List ℕ → Option StatValues
stat_of known given = if is_within given.0 known then whole (stat_at given.0 given.1) else None

abbrev pub ReadsStat : List ℕ × List ℕ → Option StatValues → Type 0
ReadsStat given read = (known : List ℕ) × AreOfStat known × (read ≡ stat_of known given)
