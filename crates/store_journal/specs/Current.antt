-- The form of CURRENT: a struct of seven numbers and their checksum (RFC 4506, section 4.14).
use Rattle.std.specs.Prelude.{◌==◌, ◌+◌, ℕ, length, if◌then◌else◌, Result, Ok, Err}
use Rattle.xdr_wire.specs.Xdr.{Xdr, Value, hyper, pair, HasSpelling, spelling}
use Rattle.xdr_wire.specs.Reading.{Read, read_at}
use Rattle.store_journal.specs.declared.current.Current.{Current}
use Rattle.store_journal.specs.declared.current.CurrentForm.{CurrentForm}
use Rattle.store_journal.specs.declared.checksum.Identity.{Identity}
use Rattle.store_journal.specs.declared.disk.Slot.{Slot}
use Rattle.store_journal.specs.declared.disk.Slot.TheVariants.{A, B}
use Rattle.store_journal.specs.declared.fault.CurrentFault.{CurrentFault}
use Rattle.store_journal.specs.declared.fault.CurrentFault.TheVariants.{Version, Corrupt}
use Rattle.store_journal.specs.Checksum.{current_checksum}
use Rattle.store_journal.specs.Disk.{Bytes, other}

-- the version of the form of CURRENT and of frames
abbrev pub VERSION : ℕ
VERSION = 3

abbrev pub slot_number : Slot → ℕ
slot_number A = 0
slot_number B = 1

abbrev pub numbers_form : Xdr
numbers_form = pair hyper (pair hyper (pair hyper (pair hyper (pair hyper (pair hyper hyper)))))

abbrev pub numbers_value : CurrentForm → Value numbers_form
numbers_value c = (c.version, (c.high, (c.low, (c.generation, (c.begun, (c.slot, c.machine))))))

abbrev pub numbers_of : Value numbers_form → CurrentForm
numbers_of v = record {
  version = v.0;
  high = v.1.0;
  low = v.1.1.0;
  generation = v.1.1.1.0;
  begun = v.1.1.1.1.0;
  slot = v.1.1.1.1.1.0;
  machine = v.1.1.1.1.1.1;
}

abbrev pub current_form : Xdr
current_form = pair numbers_form hyper

-- the form of CURRENT that a program of this version writes
abbrev pub form_of : Current → CurrentForm
form_of c = record {
  version = VERSION;
  high = c.identity.high;
  low = c.identity.low;
  generation = c.generation;
  begun = c.begun;
  slot = slot_number c.slot;
  machine = c.machine;
}

abbrev pub current_value : Current → Value current_form
current_value c = (numbers_value (form_of c), current_checksum (form_of c))

unfoldable pub current_bytes : Current → Bytes
current_bytes c = spelling current_form (current_value c)

-- CURRENT can be written
unfoldable pub IsFitCurrent : Current → Type 0
IsFitCurrent c = HasSpelling current_form (current_value c)

-- ---- reading

abbrev pub with_slot : CurrentForm → Slot → Current
with_slot c s = record {
  identity = record { high = c.high; low = c.low };
  generation = c.generation;
  begun = c.begun;
  slot = s;
  machine = c.machine;
}

abbrev pub in_known_slot : CurrentForm → Result Current CurrentFault
in_known_slot c =
    if c.slot == 0 then Ok (with_slot c A) else if c.slot == 1 then Ok (with_slot c B) else Err Corrupt

-- The checksum is checked before the version. Corruption is therefore never taken for another version.
abbrev pub of_form : CurrentForm → ℕ → ℕ → Result Current CurrentFault
of_form c checksum left =
    if left == 0 then
    (if checksum == current_checksum c then (if c.version == VERSION then in_known_slot c else Err Version)
    else Err Corrupt)
    else Err Corrupt

abbrev pub of_read : Read (Value current_form) → Result Current CurrentFault
of_read (Ok x) = of_form (numbers_of x.0.0) x.0.1 (length x.1)
of_read (Err e) = Err Corrupt

-- The content of CURRENT, whose bytes are all of these. `Version`: it is intact, and of another version. `Corrupt`:
-- it is corrupt.
unfoldable pub current_in : Bytes → Result Current CurrentFault
current_in bytes = of_read (read_at current_form bytes)

-- ---- changes of CURRENT

-- no checkpoint was finished yet
abbrev pub new_current : Identity → ℕ → Current
new_current id machine = record { identity = id; generation = 0; begun = 0; slot = B; machine = machine }

-- one more generation is begun
abbrev pub begun_next : Current → Current
begun_next c = record {
  identity = c.identity;
  generation = c.generation;
  begun = c.begun + 1;
  slot = c.slot;
  machine = c.machine;
}

-- the last begun generation is active, in the other file
abbrev pub turned_to_begun : Current → ℕ → Current
turned_to_begun c machine = record {
  identity = c.identity;
  generation = c.begun;
  begun = c.begun;
  slot = other c.slot;
  machine = machine;
}
