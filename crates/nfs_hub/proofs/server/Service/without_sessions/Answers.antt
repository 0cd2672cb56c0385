use Rattle.std.proofs.Common.{◌≡◌, false, subst}
use Rattle.std.specs.Prelude.{IfOk}
use Rattle.node_tree.specs.World.{World}
use Rattle.who_book.specs.Content.{Content}
use Rattle.nfs_hub.specs.Answer as answers
use Rattle.nfs_hub.proofs.server.Service.without_sessions.Goals as goal

pub returns : goal.returns
returns g c =
    subst (λ (p : World × Content). IfOk c.over.result (λ service. service ≡ answers.over p.0 p.1 false))
    (λ i. (c.in_ok-tree.ensures i, c.default.ensures.content i)) c.over.ensures
