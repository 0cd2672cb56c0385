-- The fault of a change, by the fault that refused a record or a session.
use Rattle.session_slots.specs.declared.restoring.RestoreFault.{RestoreFault}
use Rattle.session_slots.specs.declared.restoring.RestoreFault.TheVariants as restoring
use Rattle.client_parts.specs.declared.applying.ChangeFault.{ChangeFault}
use Rattle.client_parts.specs.declared.applying.ChangeFault.TheVariants.{Unfit, Memory}

abbrev pub decoding_fault : RestoreFault → ChangeFault
decoding_fault restoring.Misfit = Unfit
decoding_fault restoring.Memory = Memory
