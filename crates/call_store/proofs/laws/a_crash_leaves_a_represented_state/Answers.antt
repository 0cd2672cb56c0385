use Rattle.store_journal.proofs.Surviving.{settled_law}
use Rattle.call_store.proofs.Crashes.{crashes}
use Rattle.call_store.proofs.laws.a_crash_leaves_a_represented_state.Goals as goal

pub returns : goal.returns
returns c = record { crash = crashes; no_chance = settled_law }
