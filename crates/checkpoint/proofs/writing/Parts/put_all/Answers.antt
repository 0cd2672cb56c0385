use Rattle.std.proofs.Common.{◌∷◌, ◌++◌, [], List, ℕ, map, sym, ap, ◌∙◌, Err}
use Rattle.std.specs.Prelude.{flat_map}
use Rattle.std.specs.List.{AllByRecursion}
use Rattle.xdr_wire.specs.Xdr.{spelling}
use Rattle.tree_parts.specs.Parts.{part, counters_value}
use Rattle.store_journal.specs.Disk.{Bytes}
use Rattle.checkpoint.specs.internal.Drafting.{draft_of, draft_parts, all_parts}
use Rattle.checkpoint.specs.internal.Writing.{counted, object_bytes, name_bytes, HasNameSpelling, HaveSpelling}
use Rattle.checkpoint.proofs.Putting.{ends_as, ends_more, ends_then, all_parts_are, all_have, counted_then, on_ok}
use Rattle.checkpoint.proofs.writing.Parts.put_all.Goals as goal

pub returns-in-Err-clause-ends : goal.returns-in-Err-clause-ends
returns-in-Err-clause-ends g c =
    let w = c.args.tree.now in
    let d = draft_of c.args.draft.now in
    let adds = g.D.Disk.adds in
    let first : List Bytes = draft_parts d in
    let others : List Bytes = (spelling part (counters_value w) ∷ []) ++ (flat_map object_bytes w.objects ++ map name_bytes w.names) in
    let fault = c.in-Err.fault in
    ends_as adds c.args.journal.now c.put_draft.new.journal (first ++ others) (all_parts w d) (Err fault) c.args.disk.now c.put_draft.new.disk (all_parts_are w d)
    (ends_more adds c.args.journal.now c.put_draft.new.journal first others fault c.args.disk.now c.put_draft.new.disk c.in-Err.ensures.ends)

pub returns-in-Err-put_counters-clause-ends : goal.returns-in-Err-put_counters-clause-ends
returns-in-Err-put_counters-clause-ends g c =
    let w = c.args.tree.now in
    let d = draft_of c.args.draft.now in
    let adds = g.D.Disk.adds in
    let d0 = c.args.disk.now in
    let d1 = c.put_draft.new.disk in
    let d2 = c.put_counters.new.disk in
    let j0 = c.args.journal.now in
    let j1 = c.put_draft.new.journal in
    let j2 = c.put_counters.new.journal in
    let first : List Bytes = draft_parts d in
    let second : List Bytes = spelling part (counters_value w) ∷ [] in
    let others : List Bytes = flat_map object_bytes w.objects ++ map name_bytes w.names in
    let fault = c.in-Err-put_counters.fault in
    ends_as adds j0 j2 (first ++ (second ++ others)) (all_parts w d) (Err fault) d0 d2 (all_parts_are w d)
    (ends_then adds j0 j1 j2 first (second ++ others) (Err fault) d0 d1 d2 c.in-Ok.ensures.ends
    (ends_more adds j1 j2 second others fault d1 d2 c.in-Err-put_counters.ensures.ends))

pub returns-in-Err-put_objects-clause-ends : goal.returns-in-Err-put_objects-clause-ends
returns-in-Err-put_objects-clause-ends g c =
    let w = c.args.tree.now in
    let d = draft_of c.args.draft.now in
    let adds = g.D.Disk.adds in
    let d0 = c.args.disk.now in
    let d1 = c.put_draft.new.disk in
    let d2 = c.put_counters.new.disk in
    let d3 = c.put_objects.new.disk in
    let j0 = c.args.journal.now in
    let j1 = c.put_draft.new.journal in
    let j2 = c.put_counters.new.journal in
    let j3 = c.put_objects.new.journal in
    let first : List Bytes = draft_parts d in
    let second : List Bytes = spelling part (counters_value w) ∷ [] in
    let third : List Bytes = flat_map object_bytes w.objects in
    let others : List Bytes = map name_bytes w.names in
    let fault = c.in-Err-put_objects.fault in
    ends_as adds j0 j3 (first ++ (second ++ (third ++ others))) (all_parts w d) (Err fault) d0 d3 (all_parts_are w d)
    (ends_then adds j0 j1 j3 first (second ++ (third ++ others)) (Err fault) d0 d1 d3 c.in-Ok.ensures.ends
    (ends_then adds j1 j2 j3 second (third ++ others) (Err fault) d1 d2 d3 c.in-Ok-put_counters.ensures.ends
    (ends_more adds j2 j3 third others fault d2 d3 c.in-Err-put_objects.ensures.ends)))

pub returns-clause-ends : goal.returns-clause-ends
returns-clause-ends g c =
    let w = c.args.tree.now in
    let d = draft_of c.args.draft.now in
    let adds = g.D.Disk.adds in
    let d0 = c.args.disk.now in
    let d1 = c.put_draft.new.disk in
    let d2 = c.put_counters.new.disk in
    let d3 = c.put_objects.new.disk in
    let d4 = c.put_names.new.disk in
    let j0 = c.args.journal.now in
    let j1 = c.put_draft.new.journal in
    let j2 = c.put_counters.new.journal in
    let j3 = c.put_objects.new.journal in
    let j4 = c.put_names.new.journal in
    let first : List Bytes = draft_parts d in
    let second : List Bytes = spelling part (counters_value w) ∷ [] in
    let third : List Bytes = flat_map object_bytes w.objects in
    let others : List Bytes = map name_bytes w.names in
    let result = c.put_names.result in
    ends_as adds j0 j4 (first ++ (second ++ (third ++ others))) (all_parts w d) result d0 d4 (all_parts_are w d)
    (ends_then adds j0 j1 j4 first (second ++ (third ++ others)) result d0 d1 d4 c.in-Ok.ensures.ends
    (ends_then adds j1 j2 j4 second (third ++ others) result d1 d2 d4 c.in-Ok-put_counters.ensures.ends
    (ends_then adds j2 j3 j4 third others result d2 d3 d4 c.in-Ok-put_objects.ensures.ends c.put_names.ensures.ends)))

pub returns-clause-has_spelling : goal.returns-clause-has_spelling
returns-clause-has_spelling g c =
    let w = c.args.tree.now in
    on_ok c.put_names.result (AllByRecursion HasNameSpelling w.names) (HaveSpelling w) c.put_names.ensures.has_spelling
    (λ names. all_have w c.in-Ok-put_counters.ensures.has_spelling c.in-Ok-put_objects.ensures.has_spelling names)

pub returns-clause-size : goal.returns-clause-size
returns-clause-size g c =
    let w = c.args.tree.now in
    let d = draft_of c.args.draft.now in
    let first : List Bytes = draft_parts d in
    let second : List Bytes = spelling part (counters_value w) ∷ [] in
    let third : List Bytes = flat_map object_bytes w.objects in
    let others : List Bytes = map name_bytes w.names in
    let size = c.args.self.now.size in
    on_ok c.put_names.result _ _ c.put_names.ensures.size
    (λ last. last ∙ ap (λ (n : ℕ). counted n others) c.in-Ok-put_objects.ensures.size ∙ sym (counted_then c.put_counters.new.self.size third others)
    ∙ ap (λ (n : ℕ). counted n (third ++ others)) c.in-Ok-put_counters.ensures.size ∙ sym (counted_then c.put_draft.new.self.size second (third ++ others))
    ∙ ap (λ (n : ℕ). counted n (second ++ (third ++ others))) c.in-Ok.ensures.size ∙ sym (counted_then size first (second ++ (third ++ others)))
    ∙ ap (counted size) (all_parts_are w d))
