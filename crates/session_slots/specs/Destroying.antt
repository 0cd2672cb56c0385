-- DESTROY_SESSION (RFC 8881, section 18.37), DESTROY_CLIENTID (section 18.50) and RECLAIM_COMPLETE (section 18.51).
use Rattle.std.specs.Prelude.{ℕ, ◌==◌, Bool, true, if◌then◌else◌, Option, Some, None}
use Rattle.std.specs.List.{list_any}
use Rattle.std.specs.Map.{remove_entry, values_of}
use Rattle.std.specs.BTreeMap.{is_at}
use Rattle.std.specs.Ordering.{nat_cmp}
use Rattle.nfs_types.specs.declared.status.Status.{Status}
use Rattle.nfs_types.specs.declared.status.Status.TheVariants as statuses
use Rattle.session_slots.specs.Registry.{Client, Session, Registry, client_at, session_at, changed_client}

-- ---- DESTROY_SESSION

abbrev pub no_session : Option Session → Option Status
no_session None = Some statuses.BadSession
no_session (Some s) = None

-- why a session isn't destroyed
abbrev pub destroy_session_refusal : Registry → ℕ → Option Status
destroy_session_refusal r session = no_session (session_at r session)

abbrev pub without_session : Registry → ℕ → Registry
without_session r session = record r { sessions = remove_entry (is_at (nat_cmp session)) r.sessions }

-- ---- DESTROY_CLIENTID

abbrev pub has_sessions : Registry → ℕ → Bool
has_sessions r client = list_any (λ s. s.client == client) (values_of r.sessions)

abbrev pub busy_unless_none : Option Client → Bool → Bool → Option Status
busy_unless_none None opens sessions = Some statuses.StaleClientId
busy_unless_none (Some c) opens sessions =
    if opens then Some statuses.ClientIdBusy
    else if sessions then Some statuses.ClientIdBusy
    else None

-- why a client isn't destroyed: it doesn't exist, or has opens or sessions
abbrev pub destroy_client_refusal : Registry → ℕ → Bool → Option Status
destroy_client_refusal r client has_opens = busy_unless_none (client_at r client) has_opens (has_sessions r client)

abbrev pub without_client : Registry → ℕ → Registry
without_client r client = record r { clients = remove_entry (is_at (nat_cmp client)) r.clients }

-- ---- RECLAIM_COMPLETE

abbrev pub complete_already : Option Client → Option Status
complete_already None = Some statuses.StaleClientId
complete_already (Some c) = if c.reclaimed then Some statuses.CompleteAlready else None

-- why a RECLAIM_COMPLETE is refused: the client doesn't exist, or has sent it before
abbrev pub reclaim_refusal : Registry → ℕ → Option Status
reclaim_refusal r client = complete_already (client_at r client)

abbrev pub has_reclaimed : Client → Client
has_reclaimed c = record c { reclaimed = true }

abbrev pub with_reclaimed : Registry → ℕ → Registry
with_reclaimed r client = record r { clients = changed_client client has_reclaimed r.clients }
