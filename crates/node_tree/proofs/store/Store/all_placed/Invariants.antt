use Rattle.std.proofs.Common.{◌≡◌, true}
use Rattle.std.specs.Prelude.{take}
use Rattle.std.specs.List.{list_all}
use Rattle.node_tree.specs.Restored.{is_placed}
use Rattle.node_tree.proofs.store.Store.all_placed.Given as goal

abbrev pub invariant-loop-number : goal.invariant-loop-number
invariant-loop-number g l = list_all (is_placed l.self) (take l.number-index l.numbers) ≡ true
