use Rattle.std.proofs.Common.{rules}
use Rattle.std.proofs.lemmas.Map.Made.{map_same_pairs}
use Rattle.session_slots.specs.Covering.{session_lagging}
use Rattle.session_slots.proofs.changes.lag_each.Goals as goal

pub returns : goal.returns
returns g c = map_same_pairs _ session_lagging _ (λ k v b w f' t. search rules) _ _ c.retain.ensures.filtered
