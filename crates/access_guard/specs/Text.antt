-- The text of a line of the trail.
use Rattle.std.specs.Prelude.{ℕ, Bool, if◌then◌else◌, List, [], ◌++◌, codes, decimal}
use Rattle.std.specs.Option.{option_map_or}
use Rattle.std.specs.Int.{w32, to_be_bytes}
use Rattle.hex.specs.Hex.{encode_lower}
use Rattle.nfs_ops.specs.Names.{operation_name}
use Rattle.access_guard.specs.declared.decision.Cause.{Cause}
use Rattle.access_guard.specs.declared.decision.Cause.TheVariants.{ByEntry, Missing}
use Rattle.access_guard.specs.declared.line.LineKind.{LineKind}
use Rattle.access_guard.specs.declared.line.LineKind.TheVariants.{Audit, Alarm, Deny}
use Rattle.access_guard.specs.declared.line.Line.{Line}

-- a mask as eight hexadecimal digits
abbrev pub mask_text : ℕ → List ℕ
mask_text mask = encode_lower (to_be_bytes w32 mask)

-- the name of an operation of this server, and the decimal digits of any other number
abbrev pub operation_text : ℕ → List ℕ
operation_text op = option_map_or (λ name. name) (operation_name op) (decimal op)

abbrev pub kind_text : LineKind → List ℕ
kind_text Audit = codes "AUDIT"
kind_text Alarm = codes "ALARM"
kind_text Deny = codes "DENY"

-- an AUDIT or ALARM line has the outcome of the demand
abbrev pub end_text : LineKind → Bool → List ℕ
end_text Audit granted = if granted then codes " granted" else codes " refused"
end_text Alarm granted = if granted then codes " granted" else codes " refused"
end_text Deny granted = []

abbrev pub cause_text : Cause → List ℕ
cause_text (ByEntry index) = codes " entry=" ++ decimal index
cause_text (Missing bit) = codes " missing=" ++ mask_text bit

-- a number after its name
abbrev pub number_text : List ℕ → ℕ → List ℕ
number_text name number = name ++ decimal number

-- as in `DENY uid=1001 op=READ obj=2 mask=00000001 entry=3`
abbrev pub line_text : Line → List ℕ
line_text l =
    kind_text l.kind
    ++ number_text (codes " uid=") l.uid
    ++ (codes " op=" ++ operation_text l.op)
    ++ number_text (codes " obj=") l.object
    ++ (codes " mask=" ++ mask_text l.mask)
    ++ end_text l.kind l.granted
    ++ cause_text l.cause
