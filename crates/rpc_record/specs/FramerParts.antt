-- The results of the private parts of `feed`.
use Rattle.std.specs.Prelude.{◌≡◌, ◌≤◌, ◌<◌, ◌^◌, ◌+◌, ◌-◌, ℕ, true, false, List, [], ◌++◌, length, Option, Some, None}
use Rattle.std.specs.Prelude.{◌⊎◌}
use Rattle.std.specs.Int.{w32}
use Rattle.xdr_wire.specs.Xdr.{IsNumber}
use Rattle.rpc_record.specs.Frame.{Frame}
use Rattle.rpc_record.specs.declared.framer.Step.{Step}
use Rattle.rpc_record.specs.declared.framer.Step.TheVariants.{Part, Record, NeedMore, Broken}

-- the result of continuing in a header
abbrev pub HeaderGives : Option ℕ → Frame → Frame → List ℕ → Type 0
HeaderGives None old new bytes = (new ≡ record old { header = old.header ++ bytes }) × (length new.header < 4)
HeaderGives (Some n) old new bytes =
    (new ≡ record old { header = []; begun = true }) × IsNumber w32 n (old.header ++ bytes) × (n < 2 ^ 32)

-- the result of continuing in a fragment: it consumes the bytes of the piece, or those that are left of the fragment
abbrev pub BodyGives : Step → Frame → Frame → List ℕ → ℕ → Type 0
BodyGives (Part from' to) old new piece from =
    (from' ≡ from) × (from ≤ to) × (to ≤ length piece)
    × (new ≡ record old { joined = old.joined + (to - from); left = old.left - (to - from) }) × (to - from ≤ old.left)
    × ((from < to) ⊎ (old.left ≡ 0)) × (new.left ≡ 0 → old.last ≡ false) × ((to ≡ length piece) ⊎ (new.left ≡ 0))
BodyGives (Record from' to) old new piece from =
    (from' ≡ from) × (to ≡ from + old.left) × (to ≤ length piece)
    × (new ≡ record old { joined = 0; left = 0; begun = false }) × (old.last ≡ true)
BodyGives NeedMore old new piece from = (from ≡ length piece) × (0 < old.left) × (new ≡ old)
BodyGives Broken old new piece from = ⊥
