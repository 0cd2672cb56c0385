-- CREATE_SESSION (RFC 8881, section 18.36): a client gets a session, and its record is confirmed.
use Rattle.std.specs.Prelude.{◌≡◌, ℕ, Bool, not, ◌==◌, bit_and, if◌then◌else◌, [], Option, Some, None, Result}
use Rattle.xdr_wire.specs.Xdr.{Value}
use Rattle.rpc_record.specs.Identity.{Identity}
use Rattle.nfs_types.specs.declared.status.Status.{Status}
use Rattle.nfs_ops.specs.Forms.{create_session_args, channel}
use Rattle.nfs_ops.specs.Parts.{session_client, session_sequence, session_flags, fore_channel, back_channel}
use Rattle.nfs_ops.specs.Parts.{request_size, reply_size, cached_size, operations, slots}
use Rattle.nfs_ops.specs.declared.OpKind.TheVariants as kinds
use Rattle.nfs_ops.specs.Results.{Outcome, Done}
use Rattle.session_slots.specs.declared.session.Channel.{Channel}
use Rattle.session_slots.specs.declared.client.Created.{Created}
use Rattle.session_slots.specs.declared.creating.Create.{Create}
use Rattle.session_slots.specs.declared.creating.Made.{Made}
use Rattle.session_slots.specs.Registry.{Client, client_at}
use Rattle.session_slots.specs.Creating.{Creates, cached_result}
use Rattle.compound_run.specs.Realm.{Realm}
use Rattle.compound_run.specs.Sessions.{session_id, opens_without, outcome_from}

-- the requested attributes of a channel, RDMA apart
abbrev pub channel_of : Value channel → Channel
channel_of c = record {
  padding = c.0;
  request_size = request_size c;
  reply_size = reply_size c;
  cached_size = cached_size c;
  operations = operations c;
  slots = slots c;
}

-- CREATE_SESSION4_FLAG_PERSIST
abbrev pub PERSIST : ℕ
PERSIST = 1

-- the request to a server whose sessions are persistent, or aren't
abbrev pub create_of : Bool → Identity → Value create_session_args → Create
create_of lasting caller v = record {
  client = session_client v;
  sequence = session_sequence v;
  uid = caller.uid;
  persist = not (bit_and (session_flags v) PERSIST == 0);
  lasting = lasting;
  fore = channel_of (fore_channel v);
  back = channel_of (back_channel v);
}

-- without RDMA
abbrev pub channel_given : Channel → Value channel
channel_given c = (c.padding, (c.request_size, (c.reply_size, (c.cached_size, (c.operations, (c.slots, []))))))

abbrev pub session_made : Created → Outcome
session_made c =
    Done kinds.CreateSession (
      session_id c.session,
      (c.sequence, (if c.persist then PERSIST else 0, (channel_given c.fore, channel_given c.back))),
    )

abbrev pub kept_for : ℕ → Option Client → Option (Result Created Status)
kept_for sequence None = None
kept_for sequence (Some c) = cached_result c.created sequence

-- the cached result of the client's last CREATE_SESSION, if this one has its sequence ID
abbrev pub created_before : Value create_session_args → Realm → Option (Result Created Status)
created_before v r = kept_for (session_sequence v) (client_at r.registry (session_client v))

-- If a client's record is removed, its opens are closed.
pub record CreatesSession (caller : Identity) (v : Value create_session_args) (old : Realm)
    (outcome : Result Outcome Status) (new : Realm) : Type 0 where
  pub made : Made
  pub creates : Creates old.registry (create_of old.lasting caller v) made new.registry
  pub outcome_is : outcome ≡ outcome_from session_made made.result
  pub others : new ≡ record old { registry = new.registry; opens = opens_without made.removed old.opens }
