-- Demands are decided in turn.
use Rattle.std.proofs.Common.{◌≡◌, ℕ, ◌+◌, ◌*◌, ◌≤◌, List, ◌∷◌, [], ap, sym, subst, ◌∙◌, arith, drop, length, true, Bool, Some}
use Rattle.std.specs.Prelude.{◌++◌, ◌&&◌, if◌then◌else◌, Option}
use Rattle.std.proofs.lemmas.List.{append_assoc}
use Rattle.rpc_record.specs.Identity.{Identity}
use Rattle.access_rows.specs.declared.demand.Demand.{Demand}
use Rattle.access_guard.specs.declared.line.Line.{Line}
use Rattle.access_guard.specs.Guarded.{Guarded}
use Rattle.access_guard.specs.Lists.{Lists}
use Rattle.access_guard.specs.Decisions.{decision, is_granted}
use Rattle.access_guard.specs.Lines.{lines, most_lines}
use Rattle.access_rows.specs.declared.demand.Demand.TheVariants.{Bits, Removal, ServerTime}
use Rattle.node_tree.specs.Judged.{judged_of}
use Rattle.access_guard.specs.Log.{held}
use Rattle.compound_run.specs.declared.realm.Realm as realms
use Rattle.compound_run.specs.Questions.{all_granted, demand_lines}
use Rattle.acl_shape.specs.declared.bounds.TheConstants.{MAX_ENTRIES}
use Rattle.access_rows.specs.Rows.{lists_in, lists_of}

-- the demands before this index are granted, and their lines are held
pub record Asking {A : Type 0} (lists : Lists) (caller : Identity) (op : ℕ) (demands : List (Option Demand)) (old now : realms.Realm A) (i : ℕ) : Type 0 where
  pub so_far : List Line
  pub state : now ≡ record old { tree = record old.tree { log = held so_far old.tree.log } }
  pub lines : demand_lines lists caller op demands ≡ so_far ++ demand_lines lists caller op (drop i demands)
  pub granted : all_granted lists caller demands ≡ all_granted lists caller (drop i demands)
  pub few : length now.tree.log.held + MAX_ENTRIES * lists_in (drop i demands) ≤ length old.tree.log.held + MAX_ENTRIES * lists_in demands

-- holding some lines and then others is holding them together
pub held_together : (first second : List Line) (t : Guarded) → record t { log = held second (record t { log = held first t.log }).log } ≡ record t { log = held (first ++ second) t.log }
held_together first second t = ap (λ h. record t { log = record t.log { held = h } }) (append_assoc t.log.held first second)

-- the lines of a demand are those of its access control lists, and the DENY line
few_lines : (d : Demand) → most_lines d ≤ MAX_ENTRIES * lists_of d + 1
few_lines (Bits object mask) = omega arith
few_lines (Removal parent target) = omega arith
few_lines (ServerTime object) = omega arith

-- one more demand is granted
pub asked_next : {A : Type 0} (caller : Identity) (op : ℕ) (demands : List (Option Demand)) (old now : realms.Realm A) (i : ℕ) (d : Demand) (tree : Guarded)
    → Asking (judged_of old.tree.world) caller op demands old now i → drop i demands ≡ Some d ∷ drop (i + 1) demands
    → is_granted (decision (judged_of now.tree.world) caller d) ≡ true
    → tree ≡ record now.tree { log = held (lines (judged_of now.tree.world) caller op d) now.tree.log }
    → length tree.log.held + 1 ≤ length now.tree.log.held + most_lines d
    → Asking (judged_of old.tree.world) caller op demands old (record now { tree = tree }) (i + 1)
asked_next {A} caller op demands old now i d tree inv is granted state few =
    let lists = judged_of old.tree.world in
    let rest = drop (i + 1) demands in
    let same : judged_of now.tree.world ≡ lists = ap (λ (e : realms.Realm A). judged_of e.tree.world) inv.state in
    let l = lines lists caller op d in
    let yes : is_granted (decision lists caller d) ≡ true = subst (λ (j : Lists). is_granted (decision j caller d) ≡ true) same granted in
    let outcome : tree ≡ record now.tree { log = held l now.tree.log } =
    subst (λ (j : Lists). tree ≡ record now.tree { log = held (lines j caller op d) now.tree.log }) same state in
    let left : demand_lines lists caller op (drop i demands) ≡ l ++ demand_lines lists caller op rest =
    ap (λ (ds : List (Option Demand)). demand_lines lists caller op ds) is ∙ ap (λ (b : Bool). l ++ (if b then demand_lines lists caller op rest else [])) yes in
    let size = few_lines d in
    let count : lists_in (drop i demands) ≡ lists_of d + lists_in rest = ap (λ (ds : List (Option Demand)). lists_in ds) is in
    record {
      so_far = inv.so_far ++ l;
      state = ap (λ (t : Guarded). record now { tree = t }) outcome ∙ ap (λ (e : realms.Realm A). record e { tree = record e.tree { log = held l e.tree.log } }) inv.state
          ∙ ap (λ (t : Guarded). record old { tree = t }) (held_together inv.so_far l old.tree);
      lines = inv.lines ∙ ap (λ (x : List Line). inv.so_far ++ x) left ∙ sym (append_assoc inv.so_far l (demand_lines lists caller op rest));
      granted = inv.granted ∙ ap (λ (ds : List (Option Demand)). all_granted lists caller ds) is ∙ ap (λ (b : Bool). b && all_granted lists caller rest) yes;
      few = omega (arith, inv.few, few, size, count);
    }
