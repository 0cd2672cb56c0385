use Rattle.std.proofs.Common.{rules, subst, sym, Bool}
use Rattle.compound_run.specs.Compound.{opening_fault, series}
use Rattle.compound_run.specs.Limits.{MAX_OPERATIONS}
use Rattle.compound_run.specs.State.{Call, bare_context}
use Rattle.compound_run.specs.Views.{args_of, state_of}
use Rattle.compound_run.specs.Written.{OpensTo}
use Rattle.compound_run.proofs.Answering.{answers}
use Rattle.compound_run.proofs.server.Server.run_bare.Goals as goal

pub returns : goal.returns
returns g c =
    let h = c.run.ensures.answers in
    let call : Call = record { arguments = c.args.args.bytes.now; record_len = c.args.args.record_len; caller = c.args.caller.now; now = c.args.now } in
    let v = args_of c.in-Some.compound in
    let operations = c.in-Some.compound.operations.now in
    let e = c.self.inside.realm in
    let opens = subst (λ (t : Bool). OpensTo (opening_fault MAX_OPERATIONS v.1.0 v.1.1) (series v.0 (record (bare_context (state_of e) call v.0 v.1.1) { times = t }) operations) e h.0 c.run.new.realm) c.times.ensures h.1 in
    record {
      answers = (
        h.0,
        answers c.args.self.now call v operations h.0 e c.run.new.realm (sym c.self.view_is) (search rules) (search rules) opens,
        h.2,
        h.3,
      );
    }
