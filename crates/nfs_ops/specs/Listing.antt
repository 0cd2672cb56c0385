-- The entries that READDIR returns: the longest prefix of those above the cookie that stays within a limit (RFC 8881,
-- section 18.23).
use Rattle.std.specs.Prelude.{◌≡◌, ◌≤◌, ◌<◌, ◌⊎◌, ◌↔◌, ◌+◌, ◌-◌, ℕ, min, Bool, true, nat_le, nat_lt, if◌then◌else◌}
use Rattle.std.specs.Prelude.{List, [], ◌∷◌, ◌++◌, length, map, take, Option, Some, None, Result, Ok, Err}
use Rattle.std.specs.List.{prefix_len, sum_by}
use Rattle.xdr_wire.specs.Xdr.{Value, HasSpelling, spelling, link}
use Rattle.xdr_wire.specs.Buffer.{Buffer, Appends}
use Rattle.nfs_ops.specs.Forms.{entry, entry_normal, size_of_entry}
use Rattle.nfs_ops.specs.declared.listing.ListFault.{ListFault}
use Rattle.nfs_ops.specs.declared.listing.ListFault.TheVariants.{Refused, TooSmall}
use Rattle.nfs_ops.specs.declared.listing.Next.{Next}
use Rattle.nfs_ops.specs.declared.listing.Next.TheVariants as next

-- A judged entry: the entry as it is returned, or its refusal.
abbrev pub Judged : Type 0 → Type 0
Judged Refusal = Result (Value entry) Refusal

-- the entries that are returned, and whether no entry is left after them
pub record Listing : Type 0 where
  pub entries : List (Value entry)
  pub eof : Bool

-- ---- sizes

-- the bytes after the status of a result without entries: the verifier, the end mark and eof
abbrev pub empty_size : ℕ
empty_size = 16

-- the bytes after the status of a result with these entries
abbrev pub listing_size : List (Value entry) → ℕ
listing_size entries = empty_size + sum_by size_of_entry entries

-- the sizes with the first of these entries, with the first two, and so on, added to this size
abbrev pub sizes_after : ℕ → List (Value entry) → List ℕ
sizes_after size [] = []
sizes_after size (e ∷ others) = (size + size_of_entry e) ∷ sizes_after (size + size_of_entry e) others

-- The largest number of bytes of a result after its status: the client's maxcount, or the room without number and
-- status, whichever is less.
abbrev pub readdir_limit : ℕ → ℕ → ℕ
readdir_limit maxcount room = min (room - 8) maxcount

-- ---- the entries that are returned, judged in their order

-- the entries before the first that is refused
abbrev pub given_before : {R : Type 0} → List (Judged R) → List (Value entry)
given_before [] = []
given_before (Ok e ∷ others) = e ∷ given_before others
given_before (Err refusal ∷ others) = []

-- the number of entries that fit
abbrev pub fitting : {R : Type 0} → ℕ → List (Judged R) → ℕ
fitting limit all = prefix_len (λ size. nat_le size limit) (sizes_after empty_size (given_before all))

-- Each entry is judged before it is measured: the entries that fit are judged, and the one after them.
abbrev pub judged_within : {R : Type 0} → ℕ → List (Judged R) → List (Judged R)
judged_within limit all = take (1 + fitting limit all) all

-- the refusal of the first entry that is refused
abbrev pub first_refusal : {R : Type 0} → List (Judged R) → Option R
first_refusal [] = None
first_refusal (Ok e ∷ others) = first_refusal others
first_refusal (Err refusal ∷ others) = Some refusal

-- an entry fits, or no entry exists and a result without entries fits
abbrev pub some_fit : {R : Type 0} → ℕ → List (Judged R) → Bool
some_fit limit [] = nat_le empty_size limit
some_fit limit (j ∷ others) = nat_lt 0 (fitting limit (j ∷ others))

-- the entries that fit, and whether they are all
abbrev pub those_fitting : {R : Type 0} → ℕ → List (Judged R) → Listing
those_fitting limit all =
    record { entries = take (fitting limit all) (given_before all); eof = nat_le (length all) (fitting limit all) }

abbrev pub listing_unless : {R : Type 0} → ℕ → List (Judged R) → Option R → Result Listing (ListFault R)
listing_unless limit all (Some refusal) = Err (Refused refusal)
listing_unless limit all None = if some_fit limit all then Ok (those_fitting limit all) else Err TooSmall

-- The listing of all entries above the cookie, by rising cookie: those that fit, unless a judged entry is refused, or
-- nothing fits.
unfoldable pub listing : {R : Type 0} → ℕ → List (Judged R) → Result Listing (ListFault R)
listing limit all = listing_unless limit all (first_refusal (judged_within limit all))

-- ---- the facts of a listing

-- The entries are a prefix of all, none of which is refused, and it fits. The entry after the prefix, if any, isn't
-- refused and exceeds the limit.
pub record IsLongest {R : Type 0} (limit : ℕ) (all : List (Judged R)) (given : Listing) : Type 0 where
  pub rest : List (Judged R)
  pub parts : all ≡ map Ok given.entries ++ rest
  pub fits : listing_size given.entries ≤ limit
  pub granted : (refusal : R) (others : List (Judged R)) → rest ≡ Err refusal ∷ others → ⊥
  pub longest : (e : Value entry) (others : List (Judged R)) → rest ≡ Ok e ∷ others
      → limit < listing_size (given.entries ++ e ∷ [])
  pub some_or_all : given.entries ≡ [] → rest ≡ []
  pub ends : (given.eof ≡ true) ↔ (rest ≡ [])

-- an entry has this refusal, and those before it aren't refused and fit
pub record IsRefused {R : Type 0} (limit : ℕ) (all : List (Judged R)) (refusal : R) : Type 0 where
  pub before : List (Value entry)
  pub others : List (Judged R)
  pub parts : all ≡ map Ok before ++ Err refusal ∷ others
  pub fits : (before ≡ []) ⊎ (listing_size before ≤ limit)

-- The first entry isn't refused and doesn't fit; or no entry exists, and a result without entries doesn't fit.
pub record IsTooSmall {R : Type 0} (limit : ℕ) (all : List (Judged R)) : Type 0 where
  pub none : all ≡ [] → limit < empty_size
  pub first : (e : Value entry) (others : List (Judged R)) → all ≡ Ok e ∷ others → limit < listing_size (e ∷ [])
  pub granted : (refusal : R) (others : List (Judged R)) → all ≡ Err refusal ∷ others → ⊥

abbrev pub IsListing : {R : Type 0} → ℕ → List (Judged R) → Result Listing (ListFault R) → Type 0
IsListing limit all (Ok given) = IsLongest limit all given
IsListing limit all (Err (Refused refusal)) = IsRefused limit all refusal
IsListing limit all (Err TooSmall) = IsTooSmall limit all

-- ---- the bytes that are written

-- an entry after its link
abbrev pub linked_bytes : Value entry → List ℕ
linked_bytes e = link (spelling entry) e

-- an entry that can be sent, and is read back unchanged
abbrev pub IsSendable : Value entry → Type 0
IsSendable e = HasSpelling entry e × (entry_normal e ≡ e)

-- the outcome of the next of the entries that are left
abbrev pub NextGives : {R : Type 0} → List (Judged R) → Buffer → Next R → List (Judged R) → Buffer → Type 0
NextGives left old next.Written rest new =
    (e : Value entry) × (left ≡ Ok e ∷ rest) × Appends old new (linked_bytes e) × IsSendable e
NextGives left old next.End rest new = (left ≡ []) × (new ≡ old)
NextGives {R} left old (next.Refused refusal) rest new =
    (others : List (Judged R)) × (left ≡ Err refusal ∷ others) × (new ≡ old)
NextGives {R} left old next.Full rest new =
    (e : Value entry) × (others : List (Judged R)) × (left ≡ Ok e ∷ others) × (old.room < length (linked_bytes e))
    × (new ≡ old)
