use Rattle.std.proofs.Common.{map, take, Ok}
use Rattle.nfsd_options.specs.Lists.{WriteEach}
use Rattle.nfsd_options.proofs.values.values.Given as goal

abbrev pub invariant-loop-text : goal.invariant-loop-text
invariant-loop-text g l =
    WriteEach (λ t x. g.T.FromStr.from_str_gives t (Ok x)) (map (λ t. t.now) (take l.text-index l.texts)) l.values.items
