use Rattle.std.proofs.Common.{rules}
use Rattle.compound_run.proofs.Writing.{written_as}
use Rattle.compound_run.proofs.realm.Realm.readlink.Goals as goal

pub returns : goal.returns
returns g c = record {
  answered = search rules;
  written = written_as _ _ _ _ c.put_text.ensures.written (search rules);
  within = search rules;
  unwritten = search rules;
}
