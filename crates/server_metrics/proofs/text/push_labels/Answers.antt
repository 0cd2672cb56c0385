use Rattle.std.proofs.Common.{◌≡◌, ◌++◌, ◌∙◌, ap, ℕ, List, Result, Ok, Err, OnOk, append_assoc}
use Rattle.server_metrics.specs.Text.{labels}
use Rattle.server_metrics.proofs.text.push_labels.Goals as goal

-- three texts that were appended in turn
three : {T E : Type 0} (r : Result T E) (o a b z first second new : List ℕ) → first ≡ o ++ a → second ≡ first ++ b
    → OnOk r (new ≡ second ++ z) → OnOk r (new ≡ o ++ (a ++ b ++ z))
three (Ok x) o a b z first second new p q h =
    h ∙ ap (λ (t : List ℕ). t ++ z) (q ∙ ap (λ (t : List ℕ). t ++ b) p) ∙ simp append_assoc
three (Err e) o a b z first second new p q h = h

pub returns : goal.returns
unfolding labels
returns g c = three _ _ _ _ _ _ _ _ c.in_ok-push_label.ensures c.in_ok-push_label-2.ensures c.push_text.ensures
