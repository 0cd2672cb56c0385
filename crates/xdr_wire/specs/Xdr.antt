-- The types of XDR (RFC 4506, section 4), the values of each, and the bytes that encode (spell) a value.
use Rattle.std.specs.Prelude.{◌≡◌, ◌≢◌, ◌⊎◌, ◌≤◌, ◌<◌, ◌^◌, ◌-◌, ◌%◌, ℕ, ℤ, Bool, if◌then◌else◌, List, [], ◌∷◌, ◌++◌}
use Rattle.std.specs.Prelude.{length, slice_index, replicate, Option, Some, None, FitsSigned}
use Rattle.std.proofs.Common.{inl, inr}
use Rattle.std.specs.Int.{Width, w32, w64, byte_len, from_be_bytes, to_be_bytes, cast_signed, cast_unsigned}
use Rattle.std.specs.List.{flat_map, AllByRecursion}

mutual
  pub data Xdr : Type 0 where
    -- void (4.16)
    void : Xdr
    -- unsigned int (4.2), and the discriminant of an enum or a union that isn't negative (4.3, 4.15)
    uint : Xdr
    -- unsigned hyper, and hyper (4.5)
    hyper : Xdr
    signed_hyper : Xdr
    -- bool (4.4)
    boolean : Xdr
    -- opaque[n] (4.9), and opaque<max> (4.10) or string<max> (4.11)
    fixed : ℕ → Xdr
    opaque : ℕ → Xdr
    -- two fields of a struct, one after the other (4.14)
    pair : Xdr → Xdr → Xdr
    -- t[n] (4.12), and t<max> (4.13)
    fixed_array : ℕ → Xdr → Xdr
    array : ℕ → Xdr → Xdr
    -- *t (4.19)
    optional : Xdr → Xdr
    -- a list by optional data (4.19): each item after TRUE, and FALSE at the end
    chain : Xdr → Xdr
    -- union switch (unsigned int) (4.15)
    union : Arms → Xdr

  -- the fields after each discriminant of a union
  pub data Arms : Type 0 where
    no_more : Arms
    -- case n: t
    arm : ℕ → Xdr → Arms → Arms
    -- default: t
    otherwise : Xdr → Arms

-- the fields of a struct
abbrev pub fields : List Xdr → Xdr
fields [] = void
fields (t ∷ []) = t
fields (t ∷ s ∷ ts) = pair t (fields (s ∷ ts))

-- The value of a union is that of its arm; the value of a default arm includes the discriminant.
abbrev mutual
  pub Value : Xdr → Type 0
  Value void = Unit {0}
  Value uint = ℕ
  Value hyper = ℕ
  Value signed_hyper = ℤ
  Value boolean = Bool
  Value (fixed n) = List ℕ
  Value (opaque max) = List ℕ
  Value (pair s t) = Value s × Value t
  Value (fixed_array n t) = List (Value t)
  Value (array max t) = List (Value t)
  Value (optional t) = Option (Value t)
  Value (chain t) = List (Value t)
  Value (union a) = ArmValue a

  pub ArmValue : Arms → Type 0
  ArmValue no_more = ⊥
  ArmValue (arm n t others) = Value t ⊎ ArmValue others
  ArmValue (otherwise t) = ℕ × Value t

-- the bytes of a first part, and then those of a second
pub record Follows (First Second : List ℕ → Type 0) (bytes : List ℕ) : Type 0 where
  pub prefix : List ℕ
  pub back : List ℕ
  pub joined : bytes ≡ prefix ++ back
  pub first : First prefix
  pub second : Second back

-- a number of w's width, its high byte first
pub record IsNumber (w : Width) (n : ℕ) (bytes : List ℕ) : Type 0 where
  pub len : length bytes ≡ byte_len w
  pub value : from_be_bytes w bytes ≡ n

-- an integer of w's width in two's complement, its high byte first
pub record IsInteger (w : Width) (z : ℤ) (bytes : List ℕ) : Type 0 where
  pub len : length bytes ≡ byte_len w
  pub value : cast_signed w (from_be_bytes w bytes) ≡ z

-- the number of zero bytes after n bytes (section 3)
abbrev pub padding : ℕ → ℕ
padding n = (4 - n % 4) % 4

-- the bytes, and zero bytes up to a multiple of four
abbrev pub padded : List ℕ → List ℕ
padded item = item ++ replicate (padding (length item)) 0

abbrev pub IsPadded : List ℕ → List ℕ → Type 0
IsPadded item bytes = bytes ≡ padded item

-- items, one after the other
abbrev pub AreItems : {V : Type 0} → (V → List ℕ → Type 0) → List V → List ℕ → Type 0
AreItems spells [] bytes = bytes ≡ []
AreItems spells (v ∷ vs) bytes = Follows (spells v) (AreItems spells vs) bytes

-- items, each after TRUE, and FALSE after the last
abbrev pub AreLinks : {V : Type 0} → (V → List ℕ → Type 0) → List V → List ℕ → Type 0
AreLinks spells [] bytes = IsNumber w32 0 bytes
AreLinks spells (v ∷ vs) bytes = Follows (IsNumber w32 1) (Follows (spells v) (AreLinks spells vs)) bytes

abbrev pub number_of_bool : Bool → ℕ
number_of_bool b = if b then 1 else 0

-- the discriminant of the arm of a value
abbrev pub discriminant : (a : Arms) → ArmValue a → ℕ
discriminant no_more v = 0
discriminant (arm n t others) (inl v) = n
discriminant (arm n t others) (inr v) = discriminant others v
discriminant (otherwise t) v = v.0

-- the bytes, all of them, encode the value
abbrev mutual
  pub Spells : (t : Xdr) → Value t → List ℕ → Type 0
  Spells void v bytes = bytes ≡ []
  Spells uint n bytes = IsNumber w32 n bytes
  Spells hyper n bytes = IsNumber w64 n bytes
  Spells signed_hyper z bytes = IsInteger w64 z bytes
  Spells boolean b bytes = IsNumber w32 (number_of_bool b) bytes
  Spells (fixed n) v bytes = (length v ≡ n) × IsPadded v bytes
  Spells (opaque max) v bytes = (length v ≤ max) × Follows (IsNumber w32 (length v)) (IsPadded v) bytes
  Spells (pair s t) v bytes = Follows (Spells s v.0) (Spells t v.1) bytes
  Spells (fixed_array n t) vs bytes = (length vs ≡ n) × AreItems (Spells t) vs bytes
  Spells (array max t) vs bytes = (length vs ≤ max) × Follows (IsNumber w32 (length vs)) (AreItems (Spells t) vs) bytes
  Spells (optional t) None bytes = IsNumber w32 0 bytes
  Spells (optional t) (Some v) bytes = Follows (IsNumber w32 1) (Spells t v) bytes
  Spells (chain t) vs bytes = AreLinks (Spells t) vs bytes
  Spells (union a) v bytes = (d : ℕ) × Follows (IsNumber w32 d) (SpellsArm a v d) bytes

  -- after the discriminant d the bytes encode the value, in the first arm of d
  pub SpellsArm : (a : Arms) → ArmValue a → ℕ → List ℕ → Type 0
  SpellsArm no_more v d bytes = ⊥
  SpellsArm (arm n t others) (inl v) d bytes = (d ≡ n) × Spells t v bytes
  SpellsArm (arm n t others) (inr v) d bytes = (d ≢ n) × SpellsArm others v d bytes
  SpellsArm (otherwise t) v d bytes = (d ≡ v.0) × Spells t v.1 bytes

-- the bytes begin with an encoding of the value, and the rest follows it
pub record Begins (t : Xdr) (v : Value t) (bytes rest : List ℕ) : Type 0 where
  pub prefix : List ℕ
  pub spelled : Spells t v prefix
  pub parts : bytes ≡ prefix ++ rest

-- the values that have an encoding
abbrev mutual
  pub HasSpelling : (t : Xdr) → Value t → Type 0
  HasSpelling void v = Unit {0}
  HasSpelling uint n = n < 2 ^ 32
  HasSpelling hyper n = n < 2 ^ 64
  HasSpelling signed_hyper z = FitsSigned w64 z
  HasSpelling boolean b = Unit {0}
  HasSpelling (fixed n) v = length v ≡ n
  HasSpelling (opaque max) v = (length v ≤ max) × (length v < 2 ^ 32)
  HasSpelling (pair s t) v = HasSpelling s v.0 × HasSpelling t v.1
  HasSpelling (fixed_array n t) vs = (length vs ≡ n) × AllByRecursion (HasSpelling t) vs
  HasSpelling (array max t) vs = (length vs ≤ max) × (length vs < 2 ^ 32) × AllByRecursion (HasSpelling t) vs
  HasSpelling (optional t) None = Unit {0}
  HasSpelling (optional t) (Some v) = HasSpelling t v
  HasSpelling (chain t) vs = AllByRecursion (HasSpelling t) vs
  HasSpelling (union a) v = (discriminant a v < 2 ^ 32) × ArmHasSpelling a v (discriminant a v)

  -- in the first arm of d
  pub ArmHasSpelling : (a : Arms) → ArmValue a → ℕ → Type 0
  ArmHasSpelling no_more v d = ⊥
  ArmHasSpelling (arm n t others) (inl v) d = (d ≡ n) × HasSpelling t v
  ArmHasSpelling (arm n t others) (inr v) d = (d ≢ n) × ArmHasSpelling others v d
  ArmHasSpelling (otherwise t) v d = (d ≡ v.0) × HasSpelling t v.1

-- one item of a chain
abbrev pub link : {V : Type 0} → (V → List ℕ) → V → List ℕ
link spelling_of v = to_be_bytes w32 1 ++ spelling_of v

-- the encoding of a value that has one
abbrev mutual
  pub spelling : (t : Xdr) → Value t → List ℕ
  spelling void v = []
  spelling uint n = to_be_bytes w32 n
  spelling hyper n = to_be_bytes w64 n
  spelling signed_hyper z = to_be_bytes w64 (cast_unsigned w64 z)
  spelling boolean b = to_be_bytes w32 (number_of_bool b)
  spelling (fixed n) v = padded v
  spelling (opaque max) v = to_be_bytes w32 (length v) ++ padded v
  spelling (pair s t) v = spelling s v.0 ++ spelling t v.1
  spelling (fixed_array n t) vs = flat_map (spelling t) vs
  spelling (array max t) vs = to_be_bytes w32 (length vs) ++ flat_map (spelling t) vs
  spelling (optional t) None = to_be_bytes w32 0
  spelling (optional t) (Some v) = to_be_bytes w32 1 ++ spelling t v
  spelling (chain t) vs = flat_map (link (spelling t)) vs ++ to_be_bytes w32 0
  spelling (union a) v = to_be_bytes w32 (discriminant a v) ++ arm_spelling a v

  pub arm_spelling : (a : Arms) → ArmValue a → List ℕ
  arm_spelling no_more v = []
  arm_spelling (arm n t others) (inl v) = spelling t v
  arm_spelling (arm n t others) (inr v) = arm_spelling others v
  arm_spelling (otherwise t) v = spelling t v.1

-- each number of the list is a byte
abbrev pub AreBytes : List ℕ → Type 0
AreBytes bytes = (i : ℕ) → slice_index bytes i < 256
