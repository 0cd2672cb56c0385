-- The results that are read back.
use Rattle.std.specs.Prelude.{◌≡◌, ◌≢◌, true, Some}
use Rattle.nfs_ops.specs.Rows.{row}
use Rattle.nfs_ops.specs.declared.OpKind.TheVariants.{SetAttr}
use Rattle.nfs_ops.specs.Results.{Outcome, Done, Refused, SetAttrRefused}
use Rattle.nfs_ops.specs.ResultReading.{conforms, refusal_at}

-- A result that is OK conforms. A refusal has the number of a status that isn't OK; SETATTR's refusal is a case of its
-- own.
abbrev pub IsResult : Outcome → Type 0
IsResult (Done k v) = conforms k v ≡ true
IsResult (Refused n status) = (refusal_at status ≡ Some status) × (n ≢ (row SetAttr).number) × (status ≢ 0)
IsResult (SetAttrRefused status) = (refusal_at status ≡ Some status) × (status ≢ 0)
