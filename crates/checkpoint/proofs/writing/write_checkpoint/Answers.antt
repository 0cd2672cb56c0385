use Rattle.std.proofs.Common.{rules, ◌≡◌, inl, inr, true, [], refl, Ok, Err}
use Rattle.compound_run.specs.ClientState.{opens_fit}
use Rattle.compound_run.specs.State.{client_state_of}
use Rattle.tree_parts.proofs.Again.{taken_again}
use Rattle.checkpoint.specs.internal.Drafting.{draft_of, all_parts}
use Rattle.checkpoint.proofs.Putting.{checkpoint_keeps, ended_checkpoint, fits_all_the_same, size_is_counted, stopped_checkpoint}
use Rattle.checkpoint.proofs.writing.write_checkpoint.Goals as goal

pub returns-in_default-clause-writes : goal.returns-in_default-clause-writes
returns-in_default-clause-writes g c = inl ([], inl (refl, refl))

pub returns-in-Err-clause-writes : goal.returns-in-Err-clause-writes
returns-in-Err-clause-writes g c = inl ([], inl c.in-Err.ensures)

pub returns-in-Err-put_all-clause-writes : goal.returns-in-Err-put_all-clause-writes
returns-in-Err-put_all-clause-writes g c =
    let all = all_parts c.tree-tree.result.now (draft_of c.in-Ok.draft) in
    inl (all, stopped_checkpoint g.D.Disk.adds c.args.journal.now c.begin.new.self c.put_all.new.journal all c.in-Err-put_all.fault c.args.disk.now c.begin.new.disk c.put_all.new.disk c.in-Ok-begin.ensures c.in-Err-put_all.ensures.ends)

pub returns-in-Err-put_all-clause-unfit : goal.returns-in-Err-put_all-clause-unfit
returns-in-Err-put_all-clause-unfit g c =
    let s = c.args.server.now in
    let w = c.tree-tree.result.now in
    let fits : opens_fit s.realm.world (client_state_of s) ≡ true = search rules in
    fits_all_the_same g.D.Disk.adds c.begin.new.self c.put_all.new.journal (all_parts w (draft_of c.in-Ok.draft)) c.in-Err-put_all.fault (opens_fit s.realm.world (client_state_of s)) c.begin.new.disk c.put_all.new.disk fits c.in-Err-put_all.ensures.ends

pub returns-in-Ok-finish-clause-writes : goal.returns-in-Ok-finish-clause-writes
returns-in-Ok-finish-clause-writes g c =
    let s = c.args.server.now in
    let w = c.tree-tree.result.now in
    let d = draft_of c.in-Ok.draft in
    let clients = c.in-Ok.ensures.0 in
    let all = all_parts w d in
    let fits : opens_fit w (client_state_of s) ≡ true = search rules in (
      all,
      record { world = w; clients = clients; book = s.settings.book },
      checkpoint_keeps w d clients s c.tree-tree.ensures fits c.in-Ok.ensures.1 (taken_again w c.object-root.ensures.sound) c.in-Ok-put_all.ensures.has_spelling,
      (
        ended_checkpoint g.D.Disk.adds c.args.machine c.args.journal.now c.begin.new.self c.put_all.new.journal c.finish.new.self all (Ok tt) c.args.disk.now c.begin.new.disk c.put_all.new.disk c.finish.new.disk c.in-Ok-begin.ensures c.in-Ok-put_all.ensures.ends c.in-Ok-finish.ensures,
        size_is_counted c.put_all.new.self.size all c.in-Ok-put_all.ensures.size,
      ),
    )

pub returns-clause-writes : goal.returns-clause-writes
returns-clause-writes g c =
    let s = c.args.server.now in
    let w = c.tree-tree.result.now in
    let d = draft_of c.in-Ok.draft in
    let clients = c.in-Ok.ensures.0 in
    let all = all_parts w d in
    let fits : opens_fit w (client_state_of s) ≡ true = search rules in
    inr (
      all,
      record { world = w; clients = clients; book = s.settings.book },
      checkpoint_keeps w d clients s c.tree-tree.ensures fits c.in-Ok.ensures.1 (taken_again w c.object-root.ensures.sound) c.in-Ok-put_all.ensures.has_spelling,
      ended_checkpoint g.D.Disk.adds c.args.machine c.args.journal.now c.begin.new.self c.put_all.new.journal c.finish.new.self all (Err c.in-Err-finish.fault) c.args.disk.now c.begin.new.disk c.put_all.new.disk c.finish.new.disk c.in-Ok-begin.ensures c.in-Ok-put_all.ensures.ends c.in-Err-finish.ensures,
    )
