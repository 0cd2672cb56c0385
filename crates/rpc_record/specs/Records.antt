-- The records of a stream, by record marking (RFC 5531, section 11). A stream is a list of bytes, all of them.
use Rattle.std.specs.Prelude.{◌≡◌, ◌≤◌, ◌<◌, ◌^◌, ◌+◌, ℕ, Bool, true, false, if◌then◌else◌, List, ◌++◌, length, ◌⊎◌}
use Rattle.std.specs.List.{flat_map}
use Rattle.std.specs.Int.{w32}
use Rattle.xdr_wire.specs.Xdr.{IsNumber, AreItems, Follows}

-- the largest number of bytes of a record
abbrev pub limit : ℕ
limit = 131072

-- the header of a fragment: its length, and the top bit on the last fragment of a record
abbrev pub mark : Bool → ℕ → ℕ
mark last len = if last then 2147483648 + len else len

-- a fragment is its header and its body
pub record IsFragment (last : Bool) (body bytes : List ℕ) : Type 0 where
  pub header : List ℕ
  pub parts : bytes ≡ header ++ body
  pub marked : IsNumber w32 (mark last (length body)) header
  pub short : length body < 2 ^ 31

-- fragments with these bodies, none of which is the last of its record
abbrev pub AreOpen : List (List ℕ) → List ℕ → Type 0
AreOpen bodies bytes = AreItems (λ body. IsFragment false body) bodies bytes

-- the bodies, one after the other
abbrev pub joined : List (List ℕ) → List ℕ
joined bodies = flat_map (λ body. body) bodies

-- The bytes are the fragments of one record, which has this content.
pub record IsRecord (content bytes : List ℕ) : Type 0 where
  pub bodies : List (List ℕ)
  pub body : List ℕ
  pub fragments : Follows (AreOpen bodies) (IsFragment true body) bytes
  pub content-is : content ≡ joined bodies ++ body
  pub small : length content ≤ limit

-- After fragments of a record that isn't whole comes a header that takes the record above the limit.
pub record Breaks (bytes : List ℕ) : Type 0 where
  pub bodies : List (List ℕ)
  pub last : Bool
  pub len : ℕ
  pub more : List ℕ
  pub fragments : Follows (AreOpen bodies) (λ tail. Follows (IsNumber w32 (mark last len)) (λ b. b ≡ more) tail) bytes
  pub short : len < 2 ^ 31
  pub small : length (joined bodies) ≤ limit
  pub above : limit < length (joined bodies) + len

-- a header that is within the limit after `before` bytes of a record, and less than its body
pub record IsPartOfFragment (before : ℕ) (tail : List ℕ) : Type 0 where
  pub last : Bool
  pub len : ℕ
  pub body : List ℕ
  pub header : Follows (IsNumber w32 (mark last len)) (λ b. b ≡ body) tail
  pub unfinished : length body < len
  pub within : before + len ≤ limit

-- After the first bytes of a record the tail isn't a whole fragment. It is less than a header, or a header within the
-- limit and less than its body.
abbrev pub IsPartial : ℕ → List ℕ → Type 0
IsPartial before tail = (length tail < 4) ⊎ IsPartOfFragment before tail

-- the bytes are fragments of a record that isn't whole
pub record IsUnfinished (bytes : List ℕ) : Type 0 where
  pub bodies : List (List ℕ)
  pub fragments : Follows (AreOpen bodies) (IsPartial (length (joined bodies))) bytes
  pub small : length (joined bodies) ≤ limit

-- the stream is these records, followed by a rest
abbrev pub Cuts : List ℕ → List (List ℕ) → List ℕ → Type 0
Cuts stream records rest = Follows (AreItems IsRecord records) (λ bytes. bytes ≡ rest) stream

-- the bytes after the last whole record of a stream
abbrev pub IsEnd : List ℕ → Type 0
IsEnd rest = IsUnfinished rest ⊎ Breaks rest
