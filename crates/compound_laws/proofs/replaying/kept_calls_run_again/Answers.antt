use Rattle.compound_laws.proofs.Simulates.{simulates, idles}
use Rattle.compound_laws.proofs.replaying.kept_calls_run_again.Goals as goal

pub returns : goal.returns
returns c = record {
  again = λ q s new call reply covers fits is runs.
      let there = simulates q s call reply new covers fits is runs in (there.after, there.replays, there.covers);
  idle = λ q s new call reply covers fits runs none. idles q s call reply new covers fits runs none;
}
