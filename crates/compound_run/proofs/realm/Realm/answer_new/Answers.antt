use Rattle.std.proofs.Common.{◌≡◌, ◌+◌, ◌-◌, ℕ, refl, ap, length, arith}
use Rattle.nfs_ops.specs.Views.{sequence_args_value}
use Rattle.compound_run.specs.Compound.{first_room}
use Rattle.compound_run.specs.Runs.{result_bytes}
use Rattle.compound_run.specs.Sequence.{sequence_done}
use Rattle.compound_run.specs.Sessions.{session_of}
use Rattle.compound_run.specs.internal.SessionViews.{context_after_sequence, sequence_outcome}
use Rattle.compound_run.proofs.InSession.{sequenced_cached, slot_there, few_there, few_appended, from_within, sessions_stay}
use Rattle.compound_run.proofs.realm.Realm.answer_new.Goals as goal

pub returns-clause-answers : goal.returns-clause-answers
returns-clause-answers g c =
    let call = c.args.call in
    let tag = call.compound.tag.now in
    let v = sequence_args_value c.args.args.now in
    let new = c.args.new in
    let given = sequence_outcome c.sequence_given-given.result in
    let outcome = c.sequence_given-given.ensures in
    let whole : new.reply_size - 24 + 24 ≡ new.reply_size = omega (arith, c.requires.has_slot.7) in
    let d = context_after_sequence c.args.self.now.tree.book c.args.self.now.tree.world.limits.times call v new in
    let room : first_room (new.reply_size - 24 + 24) tag - length (result_bytes given) ≡ first_room new.reply_size tag - length (result_bytes (sequence_done v new.highest_slot)) = λ i. first_room (whole i) tag - length (result_bytes (outcome i)) in
    let from = record d { times = c.times.result; room = first_room (new.reply_size - 24 + 24) tag - length (result_bytes given) } in
    let is : from ≡ d = λ i. record d { times = c.times.ensures i; room = room i } in
    sequenced_cached call.refused (new.reply_size - 24) (new.reply_size - 24) from d tag v given (sequence_done v new.highest_slot) c.args.operations.now
    c.args.self.now c.run_after_sequence-ended.new.realm c.keep_from.new.self c.args.out.now c.run_after_sequence-ended.new.out c.len-start.result
    c.run_after_sequence-ended.ensures.answers refl is outcome c.len-start.ensures c.keep_from.ensures

pub keep_from-requires-clause-slot : goal.keep_from-requires-clause-slot
keep_from-requires-clause-slot g c =
    let tag = c.args.call.compound.tag.now in
    slot_there c.args.self.now.clients c.run_after_sequence-ended.new.realm.clients (session_of c.args.args.now.session) c.args.args.now.slot c.args.new c.requires.has_slot
    (sessions_stay c.args.call.refused _ _ tag (sequence_outcome c.sequence_given-given.result) c.args.operations.now c.args.self.now c.run_after_sequence-ended.new.realm c.args.out.now c.run_after_sequence-ended.new.out c.run_after_sequence-ended.ensures.answers)

pub keep_from-requires-clause-few : goal.keep_from-requires-clause-few
keep_from-requires-clause-few g c =
    let tag = c.args.call.compound.tag.now in
    few_there c.args.self.now.clients c.run_after_sequence-ended.new.realm.clients (session_of c.args.args.now.session) c.args.args.now.slot c.args.new _ c.requires.has_slot
    (sessions_stay c.args.call.refused _ _ tag (sequence_outcome c.sequence_given-given.result) c.args.operations.now c.args.self.now c.run_after_sequence-ended.new.realm c.args.out.now c.run_after_sequence-ended.new.out c.run_after_sequence-ended.ensures.answers)
    (few_appended (c.args.new.reply_size - 24) c.len-start.result c.args.out.now c.run_after_sequence-ended.new.out c.run_after_sequence-ended.ensures.answers c.len-start.ensures)

pub keep_from-requires-clause-start : goal.keep_from-requires-clause-start
keep_from-requires-clause-start g c = from_within (c.args.new.reply_size - 24) c.len-start.result c.args.out.now c.run_after_sequence-ended.new.out c.run_after_sequence-ended.ensures.answers c.len-start.ensures
