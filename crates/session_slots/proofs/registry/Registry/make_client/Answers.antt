use Rattle.std.proofs.Common.{◌≡◌, ◌||◌, ◌==◌, ℕ, ◌+◌, List, filter, Option, refl, inl}
use Rattle.std.specs.BTreeMap.{insert_entry}
use Rattle.std.specs.Ordering.{nat_cmp}
use Rattle.session_slots.specs.Registry.{Client, Session, Registry, without_sessions}
use Rattle.session_slots.specs.Exchanging.{Exchanging, stays, new_client, with_client}
use Rattle.session_slots.specs.Views.{exchanging_of}
use Rattle.session_slots.proofs.registry.Registry.make_client.Goals as goal

makes_client : (a : Exchanging) (leaving : Option ℕ) (r : Registry) (k : Client) (added left : List (ℕ × Client)) (sessions : List (ℕ × Session)) →
    k ≡ new_client r.next_client a → added ≡ insert_entry nat_cmp r.clients r.next_client k →
    left ≡ filter (λ e. e.0 == r.next_client || stays leaving a.owner e) added → sessions ≡ without_sessions leaving r.sessions →
    record r { clients = left; sessions = sessions; next_client = r.next_client + 1 } ≡ with_client leaving r a
makes_client a leaving r k added left sessions is_k is_added is_left is_sessions = rw (is_left, is_added, is_k, is_sessions)

pub returns : goal.returns
returns g c = rw (← c.self.view_is) (inl (
  refl,
  makes_client (exchanging_of c.args.asked) c.args.removed
      (record { limits = c.self.inside.limits; clients = c.self.inside.clients.entries; sessions = c.self.inside.sessions.entries; next_client = c.self.inside.next_client; next_session = c.self.inside.next_session })
      c.in-Ok.client c.add_client.new.clients.entries c.remove_others.new.clients.entries c.remove_sessions.new.sessions.entries
      c.in-Ok.ensures c.in_default-add_client.ensures.ok c.remove_others.ensures c.remove_sessions.ensures,
))
