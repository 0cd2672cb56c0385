-- The steps of writing a READDIR's result, for the functions that share it.
use Rattle.std.specs.Prelude.{◌≡◌, ◌≤◌, ◌<◌, ◌+◌, ◌++◌, ◌⊎◌, ℕ, Bool, [], ◌∷◌, List, Result, Ok, Err, length, take, map}
use Rattle.std.specs.List.{flat_map, AllByRecursion}
use Rattle.std.specs.Int.{w32, to_be_bytes}
use Rattle.xdr_wire.specs.Xdr.{Value, number_of_bool}
use Rattle.xdr_wire.specs.Buffer.{Buffer, Appends}
use Rattle.nfs_ops.specs.Forms.{entry}
use Rattle.nfs_ops.specs.Items.{ItemHasSpelling, ItemIsNormal, item_spelling}
use Rattle.nfs_ops.specs.Results.{outcome_item}
use Rattle.nfs_ops.specs.Given.{readdir_outcome}
use Rattle.nfs_ops.specs.Listing.{Judged, Listing, linked_bytes, IsSendable}
use Rattle.nfs_ops.specs.declared.listing.ListFault.{ListFault}
use Rattle.nfs_ops.specs.declared.listing.ListFault.TheVariants.{TooSmall}
use Rattle.nfs_ops.specs.declared.listing.Stop.{Stop}
use Rattle.nfs_ops.specs.declared.listing.Stop.TheVariants as stop

-- A prefix of the entries is written, none of which is refused. With each of them the buffer stayed within `most`
-- bytes.
pub record Filled {R : Type 0} (most : ℕ) (all : List (Judged R)) (old new : Buffer)
    (rest : List (Judged R)) : Type 0 where
  pub given : List (Value entry)
  pub parts : all ≡ map Ok given ++ rest
  pub written : Appends old new (flat_map linked_bytes given)
  pub fits : (given ≡ []) ⊎ (length new.bytes ≤ most)
  pub sendable : AllByRecursion IsSendable given

-- why the writing stops before the entries that are left
abbrev pub Stops : {R : Type 0} → ℕ → Buffer → Stop R → List (Judged R) → Type 0
Stops most new stop.End rest = rest ≡ []
Stops {R} most new (stop.Refused refusal) rest = (others : List (Judged R)) × (rest ≡ Err refusal ∷ others)
Stops {R} most new stop.Full rest =
    (e : Value entry) × (others : List (Judged R)) × (rest ≡ Ok e ∷ others)
    × (most < length new.bytes + length (linked_bytes e))

abbrev pub FillsUp : {R : Type 0} → ℕ → List (Judged R) → Buffer → Stop R → Buffer → Type 0
FillsUp {R} most all old stopped new =
    (rest : List (Judged R)) × Filled most all old new rest × Stops most new stopped rest

-- the end mark and eof are appended to the buffer's bytes, or only its first bytes are left
abbrev pub EndsAs : {R : Type 0} → ℕ → ℕ → Bool → Buffer → Result (Unit {0}) (ListFault R) → Buffer → Type 0
EndsAs start most eof old (Ok done) new =
    (length old.bytes ≤ most) × Appends old new (to_be_bytes w32 0 ++ to_be_bytes w32 (number_of_bool eof))
EndsAs start most eof old (Err fault) new =
    (fault ≡ TooSmall) × (most < length old.bytes) × (new.bytes ≡ take start old.bytes)
    × (new.room + start ≡ old.room + length old.bytes)

-- the result is appended to the buffer's bytes, within its room
pub record Lists {R : Type 0} (listed : Result Listing (ListFault R)) (room : ℕ) (old new : Buffer) : Type 0 where
  pub given : Listing
  pub is : listed ≡ Ok given
  pub has_spelling : ItemHasSpelling (outcome_item (readdir_outcome given))
  pub in_normal_form : ItemIsNormal (outcome_item (readdir_outcome given))
  pub written : Appends old new (item_spelling (outcome_item (readdir_outcome given)))
  pub within : length new.bytes ≤ length old.bytes + room
