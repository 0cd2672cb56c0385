-- A call to a server and the record received after it, over any transport.
use Rattle.std.specs.Prelude.{ℕ, List, Result, Ok, Err}
use Rattle.nfs_client.specs.declared.fault.ToolFault.{ToolFault}
use Rattle.nfs_client.specs.declared.fault.ToolFault.TheVariants.{Write, Read, Reply, Memory}

-- A transport's relation: the transport before a call, the bytes of the call, the result, and the transport after it.
-- The result is the record that was read after the call, or a fault.
abbrev pub Talking : Type 0 → Type 1
Talking S = S → List ℕ → Result (List ℕ) ToolFault → S → Type 0

-- the bytes of the record, or the fault
abbrev pub as_read : {X : Type 0} → (X → List ℕ) → Result X ToolFault → Result (List ℕ) ToolFault
as_read bytes (Ok content) = Ok (bytes content)
as_read bytes (Err fault) = Err fault

-- a fault for which no record was read after a call
abbrev pub IsTalkFault : ToolFault → Type 0
IsTalkFault Write = Unit {0}
IsTalkFault Read = Unit {0}
IsTalkFault Reply = Unit {0}
IsTalkFault Memory = Unit {0}
IsTalkFault fault = ⊥
