-- A change that is applied transitions the clients' state.
use Rattle.std.proofs.Common.{◌≡◌, ℕ, Bool, true, if◌then◌else◌, List, sym, ap, ◌∙◌, subst}
use Rattle.std.specs.Prelude.{Option}
use Rattle.std.specs.Option.{option_map}
use Rattle.std.specs.List.Sorted.{IsStrictlyIncreasing}
use Rattle.xdr_wire.specs.Xdr.{Value}
use Rattle.session_slots.specs.declared.client.Creation.{Creation}
use Rattle.session_slots.specs.Forms.{client, call, creation, client_value, creation_value, call_value}
use Rattle.session_slots.specs.Registry.{Client, Registry, session_at}
use Rattle.session_slots.specs.Restoring.{record_fits, with_record, slot_fits, with_cached}
use Rattle.session_slots.specs.Slots.{Cached}
use Rattle.compound_run.specs.Realm.{Opened}
use Rattle.compound_run.specs.ClientState.{ClientState}
use Rattle.client_parts.specs.Applying.{AppliesRecord, AppliesCall}

module _ (old : ClientState) (r : Registry) (opens : List Opened) (next : ℕ) (is : record { registry = r; opens = opens; next_open = next } ≡ old) where
  abbrev with_other : Registry → ClientState
  with_other s = record { registry = s; opens = opens; next_open = next }

  pub call_applies : (after : Registry) (session slot : ℕ) (k : Cached) (v : Value call) (b : Bool) → b ≡ slot_fits (session_at r session) slot k → b ≡ true → after ≡ (if b then with_cached r session slot k else r) → v ≡ call_value session slot k → IsStrictlyIncreasing k.call.caller.groups → AppliesCall old v (with_other after)
  call_applies after session slot k v b fits well made written rising =
      subst (λ (o : ClientState). AppliesCall o v (with_other after)) is (record {
        at = session;
        slot = slot;
        kept = k;
        written = written;
        rising = rising;
        fits = sym fits ∙ well;
        is = ap with_other (made ∙ ap (λ (c : Bool). if c then with_cached r session slot k else r) well);
      })

  pub record_applies : (after : Registry) (c : Client) (v : Value client) → record_fits r c ≡ true → after ≡ with_record r c → v ≡ client_value c → AppliesRecord old v (with_other after)
  record_applies after c v fits made written =
      subst (λ (o : ClientState). AppliesRecord o v (with_other after)) is (record { restored = c; written = written; fits = fits; is = ap with_other made })

-- a record whose last CREATE_SESSION is of the same form is of the same form
pub same_form : (c d : Client) (created : Option Creation) → d ≡ record c { created = created } → option_map creation_value created ≡ option_map creation_value c.created → client_value c ≡ client_value d
same_form c d created is same =
    ap (λ (o : Option (Value creation)). (c.number, (c.owner, (c.verifier, (c.uid, (c.confirmed, (o, c.reclaimed))))))) (sym same) ∙ ap client_value (sym is)
