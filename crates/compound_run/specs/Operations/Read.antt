-- READ (RFC 8881, section 18.22): reads bytes of a file, from an offset.
use Rattle.std.specs.Prelude.{ℕ, ◌+◌, ◌-◌, ◌*◌, ◌/◌, nat_le, min, List, [], ◌∷◌, length, take, drop}
use Rattle.xdr_wire.specs.Xdr.{Value}
use Rattle.nfs_ops.specs.Forms.{read_args, read_result}
use Rattle.nfs_ops.specs.Operations.{Known}
use Rattle.nfs_ops.specs.Parts.{read_stateid, read_offset, read_count, read_gives}
use Rattle.nfs_ops.specs.declared.OpKind.TheVariants as kinds
use Rattle.nfs_ops.specs.Rows.{row}
use Rattle.nfs_ops.specs.Results.{Done}
use Rattle.compound_run.specs.declared.filehandles.FileHandles.{FileHandles}
use Rattle.compound_run.specs.Limits.{MAX_READ}
use Rattle.compound_run.specs.Context.{Context}
use Rattle.compound_run.specs.Sight.{Sight}
use Rattle.compound_run.specs.declared.stateids.Purpose.TheVariants.{ToRead}
use Rattle.compound_run.specs.Stateids.{has_stateid}
use Rattle.compound_run.specs.Rows.{first_row}
use Rattle.compound_run.specs.Meaning.{Meaning, stays, with_handle, here, is_no_directory, is_no_link}

-- The most bytes of data of a result in this much room. The operation's number, its status, eof and the length take 16
-- bytes.
abbrev pub data_room : ℕ → ℕ
data_room room = (room - 16) / 4 * 4

-- the most bytes that are returned, for this requested count and this much room
abbrev pub most_of : ℕ → ℕ → ℕ
most_of count room = min (data_room room) (min count MAX_READ)

-- the bytes of the file among them
abbrev pub part : Context → Value read_args → ℕ → Sight → List ℕ
part c v file s = take (most_of (read_count v) c.room) (drop (read_offset v) (s.bytes file))

-- eof is set if the offset and the bytes returned reach the size
abbrev pub gives : Context → Value read_args → ℕ → Sight → Value read_result
gives c v file s = read_gives (nat_le (s.sizes file) (read_offset v + length (part c v file s))) (part c v file s)

abbrev pub read : Value read_args → Context → FileHandles → Meaning
read v c h = record {
  number = (row kinds.Read).number;
  caller = c.caller;
  questions = with_handle h.current
      (is_no_directory (here h)
      ∷ is_no_link (here h)
      ∷ has_stateid ToRead c (here h) (read_stateid v)
      ∷ first_row h (Known kinds.Read v)
      ∷ []);
  answer = λ s. Done kinds.Read (gives c v (here h) s);
  effect = stays;
  goes = λ s. h;
}
