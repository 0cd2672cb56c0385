-- An item as it is encoded: a form, and a value of it that is in normal form.
use Rattle.std.specs.Prelude.{◌≡◌, ℕ, List, [], ◌∷◌, Some, None}
use Rattle.xdr_wire.specs.Xdr.{Xdr, Value, void, uint, pair, fields, HasSpelling, spelling, Begins}
use Rattle.xdr_wire.specs.Wire.{Normal, normalized, both}

pub record Item : Type 0 where
  pub form : Xdr
  pub normal : Normal (Value form)
  pub value : Value form

-- a form, and the normal form of its values
pub record Spelled : Type 0 where
  pub form : Xdr
  pub normal : Normal (Value form)

-- a form whose values are all in normal form
abbrev pub alone : Xdr → Spelled
alone t = record { form = t; normal = None }

-- a form whose normal form f gives
abbrev pub normally : (t : Xdr) → (Value t → Value t) → Spelled
normally t f = record { form = t; normal = Some f }

abbrev pub nothing : Spelled
nothing = alone void

-- a number, and the value after it
abbrev pub numbered : ℕ → (s : Spelled) → Value s.form → Item
numbered n s v = record { form = pair uint s.form; normal = both None s.normal; value = (n, v) }

abbrev pub number : ℕ → Item
number n = record { form = uint; normal = None; value = n }

-- a number, the status OK, and the value after them
abbrev pub done : ℕ → (s : Spelled) → Value s.form → Item
done n s v =
    record { form = fields (uint ∷ uint ∷ s.form ∷ []); normal = both None (both None s.normal); value = (n, (0, v)) }

-- a number and a status
abbrev pub plain : ℕ → ℕ → Item
plain n status = record { form = fields (uint ∷ uint ∷ []); normal = None; value = (n, status) }

abbrev pub item_spelling : Item → List ℕ
item_spelling i = spelling i.form i.value

abbrev pub ItemHasSpelling : Item → Type 0
ItemHasSpelling i = HasSpelling i.form i.value

abbrev pub ItemIsNormal : Item → Type 0
ItemIsNormal i = normalized i.normal i.value ≡ i.value

-- the bytes begin with an encoding of the value, or of one with this normal form, and the rest follows it
abbrev pub IsAtStart : Item → List ℕ → List ℕ → Type 0
IsAtStart i bytes rest = (v : Value i.form) × Begins i.form v bytes rest × (normalized i.normal v ≡ i.value)
