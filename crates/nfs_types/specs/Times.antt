-- Times that an operation sets (RFC 8881, sections 3.3.1 to 3.3.3).
use Rattle.std.specs.Prelude.{ℕ, List, [], Option, Some, None, Result, Ok, Err}
use Rattle.std.proofs.Common.{inl, inr}
use Rattle.xdr_wire.specs.Xdr.{Xdr, Value, union, arm, no_more, fields}
use Rattle.nfs_types.specs.Forms.{time}
use Rattle.nfs_types.specs.MomentView.{moment_in}
use Rattle.nfs_types.specs.declared.moment.Moment.{Moment}
use Rattle.nfs_types.specs.declared.set_time.SetTime.{SetTime}
use Rattle.nfs_types.specs.declared.set_time.SetTime.TheVariants.{Server, Client}
use Rattle.nfs_types.specs.declared.set_time.SentTime.{SentTime}
use Rattle.nfs_types.specs.declared.set_time.SentTime.TheVariants as sent
use Rattle.nfs_types.specs.declared.status.Status.{Status}
use Rattle.nfs_types.specs.declared.status.Status.TheVariants.{Inval}

-- settime4: the server's time, or a time of the client
abbrev pub settime : Xdr
settime = union (arm 0 (fields []) (arm 1 time no_more))

abbrev pub sent_time : SentTime → Value settime
sent_time sent.Server = inl tt
sent_time (sent.Client seconds nanoseconds) = inr (inl (seconds, nanoseconds))

-- a time of the client, if it is one
abbrev pub client_time : Option Moment → Result (Option SetTime) Status
client_time None = Err Inval
client_time (Some moment) = Ok (Some (Client moment))

-- the time that is set, if one was sent
abbrev pub taken_time : Option (Value settime) → Result (Option SetTime) Status
taken_time None = Ok None
taken_time (Some (inl server)) = Ok (Some Server)
taken_time (Some (inr (inl v))) = client_time (moment_in v)
taken_time (Some (inr (inr v))) = elim v [ ]
