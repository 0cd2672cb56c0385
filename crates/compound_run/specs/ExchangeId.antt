-- EXCHANGE_ID (RFC 8881, section 18.35): a client gets a record.
use Rattle.std.specs.Prelude.{◌≡◌, ℕ, Bool, false, List, codes, Result}
use Rattle.std.proofs.Common.{inl}
use Rattle.std.specs.Int.{w64, from_be_bytes}
use Rattle.std.specs.Option.{option_map_or}
use Rattle.xdr_wire.specs.Xdr.{Value}
use Rattle.rpc_record.specs.Identity.{Identity}
use Rattle.nfs_types.specs.declared.status.Status.{Status}
use Rattle.nfs_ops.specs.Forms.{exchange_id_args}
use Rattle.nfs_ops.specs.Parts.{client_verifier, client_owner, exchange_id_flags}
use Rattle.nfs_ops.specs.declared.OpKind.TheVariants as kinds
use Rattle.nfs_ops.specs.Results.{Outcome, Done}
use Rattle.session_slots.specs.declared.exchanging.Exchanged.{Exchanged}
use Rattle.session_slots.specs.Registry.{confirmed_entry}
use Rattle.session_slots.specs.Exchanging.{Exchanging, Exchanges, answered_flags}
use Rattle.compound_run.specs.Realm.{Realm}
use Rattle.compound_run.specs.Sessions.{has_opens, outcome_from, with_registry}

-- the owner's confirmed record has opens
abbrev pub owner_has_opens : List ℕ → Realm → Bool
owner_has_opens owner r = option_map_or (λ c. has_opens c.number r.opens) (confirmed_entry r.registry owner) false

abbrev pub exchanging : Identity → Value exchange_id_args → Realm → Exchanging
exchanging caller v r = record {
  owner = client_owner v;
  verifier = from_be_bytes w64 (client_verifier v);
  uid = caller.uid;
  flags = exchange_id_flags v;
  has_opens = owner_has_opens (client_owner v) r;
}

-- the server owner's major ID, and the server scope
abbrev pub SERVER : List ℕ
SERVER = codes "nfs41-lists"

abbrev pub exchanged : Exchanged → Outcome
exchanged e =
    Done kinds.ExchangeId
    (e.client, (e.sequence, (answered_flags e, (inl tt, ((inl tt, inl tt), (SERVER, (SERVER, inl tt)))))))

-- A client whose record is removed has no opens.
pub record ExchangesId (caller : Identity) (v : Value exchange_id_args) (old : Realm)
    (outcome : Result Outcome Status) (new : Realm) : Type 0 where
  pub given : Result Exchanged Status
  pub exchanges : Exchanges old.registry (exchanging caller v old) given new.registry
  pub outcome_is : outcome ≡ outcome_from exchanged given
  pub others : new ≡ with_registry new.registry old
