use Rattle.std.proofs.Common.{◌+◌, ℕ, List, Vec, map, length, sym, ap, ◌∙◌, subst}
use Rattle.std.proofs.lemmas.List.{length_push}
use Rattle.store_journal.specs.Disk.{Bytes}
use Rattle.compound_run.specs.ClientState.{unknown}
use Rattle.checkpoint.specs.Holds.{AppliesParts, AppliesWhole}
use Rattle.checkpoint.proofs.Gathering.{applied_more}
use Rattle.checkpoint.proofs.Putting.{map_push}
use Rattle.checkpoint.proofs.drafting.ReadAgain.of.Goals as goal

abbrev bytes_in : {A : Type 0} → Vec ℕ A → Bytes
bytes_in b = b.items

pub loop-place-preserved : goal.loop-place-preserved
loop-place-preserved g c =
    let parts = c.loop-place.parts.items in
    let bytes = c.in_ok-bytes.bytes in
    record {
      count = ap length c.in_ok-push.ensures.items ∙ length_push parts bytes ∙ ap (λ (n : ℕ). n + 1) c.loop-place.invariant.count;
      applies =
          subst (λ (l : List (Vec ℕ g.row.A.Denot)). AppliesParts (unknown c.args.limits) (map bytes_in l) c.apply_whole.new.clients) (sym c.in_ok-push.ensures.items)
          (subst (λ (l : List Bytes). AppliesParts (unknown c.args.limits) l c.apply_whole.new.clients) (sym (map_push bytes_in parts bytes))
          (applied_more (unknown c.args.limits) (map bytes_in parts) c.loop-place.clients bytes.items c.apply_whole.new.clients c.loop-place.invariant.applies
          (subst (λ (b : Bytes). AppliesWhole c.loop-place.clients b c.apply_whole.new.clients) c.as_slice.ensures.value c.in-Ok.ensures)));
    }
