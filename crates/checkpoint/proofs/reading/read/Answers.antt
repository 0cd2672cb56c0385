use Rattle.std.proofs.Common.{◌≡◌, ◌<◌, ◌≤◌, ◌-◌, Bor, List, [], ℕ, map, take, drop, length, sym, ap, ◌∙◌, subst}
use Rattle.std.proofs.lemmas.List.{length-map}
use Rattle.store_journal.specs.Disk.{Bytes}
use Rattle.compound_run.specs.ClientState.{ClientState}
use Rattle.client_parts.specs.PartCount.{client_part_count}
use Rattle.checkpoint.specs.Covering.{IsInOrder}
use Rattle.checkpoint.proofs.Gathering.{first_part, front_is, back_is, head_fault, few_parts, clients_fault, tree_fault, all_read}
use Rattle.checkpoint.proofs.reading.read.Goals as goal

abbrev none : Bor (List ℕ)
none = record { ref_ptr = (0, 0); now = [] }

abbrev view : Bor (List ℕ) → Bytes
view b = b.now

abbrev others_of : List (Bor (List ℕ)) → List (Bor (List ℕ))
others_of parts = take (length parts - 1) (drop 1 parts)

few : (others : List (Bor (List ℕ))) (n m : ℕ) → n ≡ m → length others < n → length (map view others) < m
few others n m same less = subst (λ (k : ℕ). length (map view others) < k) same (subst (λ (k : ℕ). k < n) (sym (length-map others view)) less)

enough : (others : List (Bor (List ℕ))) (n m : ℕ) → n ≡ m → n ≤ length others → m ≤ length (map view others)
enough others n m same le = subst (λ (k : ℕ). k ≤ length (map view others)) same (subst (λ (k : ℕ). n ≤ k) (sym (length-map others view)) le)

pub returns-in-Err : goal.returns-in-Err
returns-in-Err g c =
    let parts = c.args.parts.now in
    head_fault (map view parts) _ (map view (others_of parts)) (first_part view parts none c.in-len1-up.len_at_least) g.row.A.Denot c.in-Err.fault c.in-Err.ensures

pub returns-then-others-count : goal.returns-then-others-count
returns-then-others-count g c =
    let parts = c.args.parts.now in
    few_parts (map view parts) _ (map view (others_of parts)) (first_part view parts none c.in-len1-up.len_at_least) c.in-Ok.found.0 c.in-Ok.found.1 c.in-Ok.ensures g.row.A.Denot
    (few (others_of parts) c.client_part_count-count.result (client_part_count c.in-Ok.found.0) c.client_part_count-count.ensures c.if-others-count.true)

pub returns-in-Err-client_state_of : goal.returns-in-Err-client_state_of
returns-in-Err-client_state_of g c =
    let parts = c.args.parts.now in
    let n = client_part_count c.in-Ok.found.0 in
    let others = others_of parts in
    clients_fault (map view parts) _ (map view others) (first_part view parts none c.in-len1-up.len_at_least) c.in-Ok.found.0 c.in-Ok.found.1 c.in-Ok.ensures (map view c.split_at.result.0.now) (map view c.split_at.result.1.now)
    (front_is view n others c.split_at.result.0.now (c.split_at.ensures.front ∙ ap (λ (k : ℕ). take k others) c.client_part_count-count.ensures))
    (back_is view n others c.split_at.result.1.now (c.split_at.ensures.back ∙ ap (λ (k : ℕ). drop k others) c.client_part_count-count.ensures))
    g.row.A.Denot c.in-Err-client_state_of.fault c.in-Err-client_state_of.ensures

pub returns : goal.returns
returns g c =
    let parts = c.args.parts.now in
    let n = client_part_count c.in-Ok.found.0 in
    let others = others_of parts in (
      all_read (map view parts) _ (map view others) (first_part view parts none c.in-len1-up.len_at_least) c.in-Ok.found.0 c.in-Ok.found.1 c.in-Ok.ensures (map view c.split_at.result.0.now) (map view c.split_at.result.1.now)
          (front_is view n others c.split_at.result.0.now (c.split_at.ensures.front ∙ ap (λ (k : ℕ). take k others) c.client_part_count-count.ensures))
          (back_is view n others c.split_at.result.1.now (c.split_at.ensures.back ∙ ap (λ (k : ℕ). drop k others) c.client_part_count-count.ensures))
          c.in-Ok-client_state_of.clients c.in-Ok-restored.tree
          (enough others c.client_part_count-count.result n c.client_part_count-count.ensures c.if-others-count.false)
          c.in-Ok-client_state_of.ensures c.in-Ok-restored.ensures,
      subst (λ (k : ClientState). IsInOrder k.registry) c.clients.view_is c.see_all.ensures,
    )

pub returns-in-Err-restored : goal.returns-in-Err-restored
returns-in-Err-restored g c =
    let parts = c.args.parts.now in
    let n = client_part_count c.in-Ok.found.0 in
    let others = others_of parts in
    tree_fault (map view parts) _ (map view others) (first_part view parts none c.in-len1-up.len_at_least) c.in-Ok.found.0 c.in-Ok.found.1 c.in-Ok.ensures (map view c.split_at.result.0.now) (map view c.split_at.result.1.now)
    (front_is view n others c.split_at.result.0.now (c.split_at.ensures.front ∙ ap (λ (k : ℕ). take k others) c.client_part_count-count.ensures))
    (back_is view n others c.split_at.result.1.now (c.split_at.ensures.back ∙ ap (λ (k : ℕ). drop k others) c.client_part_count-count.ensures))
    g.row.A.Denot c.in-Err-restored.fault c.in-Err-restored.ensures
