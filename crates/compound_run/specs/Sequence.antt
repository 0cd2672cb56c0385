-- SEQUENCE (RFC 8881, section 18.46): a request of a session begins.
use Rattle.std.specs.Prelude.{ℕ, ◌-◌, Bool, true, false, List, ◌++◌, length, take, drop, Ok}
use Rattle.std.proofs.Common.{inl}
use Rattle.xdr_wire.specs.Xdr.{Value}
use Rattle.rpc_record.specs.Identity.{Identity}
use Rattle.nfs_ops.specs.Forms.{sequence_args, sequence_result}
use Rattle.nfs_ops.specs.Parts.{sequence_session, sequence_number, sequence_slot, highest_slot, keeps_reply}
use Rattle.nfs_ops.specs.Rows.{row}
use Rattle.nfs_ops.specs.declared.OpKind.TheVariants as kinds
use Rattle.nfs_ops.specs.Results.{Done}
use Rattle.session_slots.specs.declared.session.NewCall.{NewCall}
use Rattle.session_slots.specs.Slots.{finished}
use Rattle.session_slots.specs.Registry.{Registry, with_session, with_place}
use Rattle.session_slots.specs.Sequencing.{Asked}
use Rattle.compound_run.specs.declared.context.Calling.{Calling}
use Rattle.compound_run.specs.Runs.{Given, result_bytes}
use Rattle.compound_run.specs.Compound.{first_room}
use Rattle.compound_run.specs.Sessions.{session_of}

-- the request on a slot: its operation count, the bytes of its record, and the bytes that a retry must have
abbrev pub asked_by : Value sequence_args → ℕ → ℕ → Identity → List ℕ → Asked
asked_by v count record_len caller arguments = record {
  slot = sequence_slot v;
  highest = highest_slot v;
  count = count;
  record_len = record_len;
  call = record { number = sequence_number v; caller = caller; arguments = arguments };
}

-- The bytes that a retry of a call must have, of those after the header: all of them. With persistent sessions they are
-- all but sa_highest_slotid, since a client may send a call again with another one (RFC 8881, section 18.46.3). That
-- field is encoded before sa_cachethis and the operations after SEQUENCE, whose byte count is given.
abbrev pub compared : Bool → List ℕ → ℕ → List ℕ
compared false arguments rest = arguments
compared true arguments rest =
    take (length arguments - rest - 8) arguments ++ drop (length arguments - rest - 4) arguments

-- The highest slot and the target highest slot are the same. No flag is ever set.
abbrev pub sequence_given : Value sequence_args → ℕ → Value sequence_result
sequence_given v highest = (sequence_session v, (sequence_number v, (sequence_slot v, (highest, (highest, inl tt)))))

abbrev pub sequence_done : Value sequence_args → ℕ → Given
sequence_done v highest =
    record { number = (row kinds.Sequence).number; outcome = Ok (Done kinds.Sequence (sequence_given v highest)) }

-- the session for the operations after SEQUENCE
abbrev pub calling_by : Value sequence_args → NewCall → Calling
calling_by v new = record { client = new.client; keeps_reply = keeps_reply v }

-- the room of these operations, in a reply of the granted size
abbrev pub room_after_sequence : List ℕ → Value sequence_args → NewCall → ℕ
room_after_sequence tag v new = first_room new.reply_size tag - length (result_bytes (sequence_done v new.highest_slot))

-- the results of the call are cached in its slot
abbrev pub keeping : Value sequence_args → List ℕ → Registry → Registry
keeping v results r =
    with_session (session_of (sequence_session v)) (with_place (sequence_slot v) (λ p. finished p results)) r
