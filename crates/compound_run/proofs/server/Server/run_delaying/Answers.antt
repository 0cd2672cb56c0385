use Rattle.std.proofs.Common.{rules, sym}
use Rattle.compound_run.specs.State.{Call}
use Rattle.compound_run.specs.Views.{args_of, state_of}
use Rattle.compound_run.proofs.Numbered.{numbered_call}
use Rattle.compound_run.proofs.Replying.{answers_call}
use Rattle.compound_run.proofs.server.Server.run_delaying.Goals as goal

pub returns : goal.returns
returns g c =
    let h = c.answer_in_session-ran.ensures.answers in
    let call : Call = record { arguments = c.args.args.bytes.now; record_len = c.args.args.record_len; caller = c.args.caller.now; now = c.args.now } in
    let outcome = answers_call c.args.refused c.args.self.now (state_of c.self.inside.realm) c.answer_in_session-ran.result (state_of c.answer_in_session-ran.new.self) call (args_of c.in-Some.compound) c.in-Some.compound.operations.now h.0 (sym c.self.view_is) (search rules) h.1 in
    record {
      answers = (h.0, outcome, h.2, h.3);
      numbered = numbered_call call (args_of c.in-Some.compound) c.in-Some.compound.operations.now (search rules) c.answer_in_session-ran.ensures.numbered;
    }
