use Rattle.std.proofs.Common.{rules}
use Rattle.compound_run.proofs.Writing.{written_as}
use Rattle.compound_run.proofs.realm.Realm.getfh.Goals as goal

pub returns : goal.returns
returns g c = record {
  answered = search rules;
  written = written_as _ _ _ _ c.put_result.ensures.written (search rules);
  within = search rules;
  unwritten = search rules;
}
