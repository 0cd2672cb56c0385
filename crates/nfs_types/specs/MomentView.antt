-- A moment and the value that is sent for it (RFC 8881, section 3.3.1).
use Rattle.std.specs.Prelude.{ℕ, Option, Some, None}
use Rattle.std.proofs.Common.{inl, inr}
use Rattle.std.proofs.lemmas.Bool.{cases_lt}
use Rattle.xdr_wire.specs.Xdr.{Value}
use Rattle.nfs_types.specs.Forms.{time}
use Rattle.nfs_types.specs.declared.moment.Moment.{Moment}

abbrev pub moment_value : Moment → Value time
moment_value m = (m.seconds, m.nanoseconds)

-- the moment of these seconds and nanoseconds, if the nanoseconds are fewer than a billion
abbrev pub moment_in : Value time → Option Moment
moment_in v =
    elim (cases_lt v.1 1000000000) [
      | inl few ↦ Some (record { seconds = v.0; nanoseconds = v.1; is_fraction = few })
      | inr many ↦ None
    ]
