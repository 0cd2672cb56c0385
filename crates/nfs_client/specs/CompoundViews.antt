-- The value of reading a reply, without the place of the results in memory.
use Rattle.std.specs.Prelude.{◌≡◌, ℕ, false, List, map, Option, Some, None, Result, Ok, Err, is_ok}
use Rattle.xdr_wire.specs.Reading.{items_at}
use Rattle.nfs_ops.specs.ResultReading.{result_at}
use Rattle.nfs_types.specs.Status as statuses
use Rattle.nfs_ops.specs.Results.{Outcome}
use Rattle.nfs_ops.specs.ResultViews.{read_view}
use Rattle.nfs_ops.specs.declared.OpResult.{OpResult}
use Rattle.nfs_client.specs.Compound.{Answer, AllDone, LastRefused, NoReply, ReplyResults, Compound}
use Rattle.nfs_client.specs.declared.fault.ToolFault.{ToolFault}
use Rattle.nfs_client.specs.declared.fault.ToolFault.TheVariants.{Refused, Reply, Memory}

abbrev pub outcomes : List OpResult → List Outcome
outcomes results = map read_view results

-- The fault of an answer that isn't `AllDone`.
abbrev pub FaultIs : ToolFault → Answer → Type 0
FaultIs (Refused op status) answer = answer ≡ LastRefused op (statuses.number_of status)
FaultIs Reply answer = answer ≡ NoReply
FaultIs _ answer = ⊥

-- all is done, or the fault of an answer
abbrev pub Judges : Result (Unit {0}) ToolFault → Answer → Type 0
Judges (Ok done) answer = answer ≡ AllDone
Judges (Err fault) answer = FaultIs fault answer

-- `count` results at the start of the bytes; or one of them can't be read; or an allocation fails.
abbrev pub ItemsGive : {X : Type 0} → (X → List Outcome) → ℕ → List ℕ → List ℕ → Result X ToolFault → Type 0
ItemsGive view count old new (Ok results) = items_at result_at count old ≡ Ok (view results, new)
ItemsGive view count old new (Err Reply) = is_ok (items_at result_at count old) ≡ false
ItemsGive view count old new (Err Memory) = Unit {0}
ItemsGive view count old new (Err fault) = ⊥

-- the results of a COMPOUND with its status; or the bytes are no COMPOUND; or an allocation fails
abbrev pub CompoundGives : {X : Type 0} → (X → List Outcome) → Option Compound → Result (ℕ × X) ToolFault → Type 0
CompoundGives view compound (Ok x) = compound ≡ Some (record { status = x.0; results = view x.1 })
CompoundGives view compound (Err Reply) = compound ≡ None
CompoundGives view compound (Err Memory) = Unit {0}
CompoundGives view compound (Err fault) = ⊥

-- The results of a reply if all is done, else its fault; or an allocation fails.
abbrev pub ResultsGive : {X : Type 0} → (X → List Outcome) → ReplyResults → Result X ToolFault → Type 0
ResultsGive view reply_results (Ok results) = (reply_results.answer ≡ AllDone) × (reply_results.results ≡ view results)
ResultsGive view reply_results (Err Memory) = Unit {0}
ResultsGive view reply_results (Err fault) = FaultIs fault reply_results.answer
