use Rattle.std.proofs.Common.{◌∙◌}
use Rattle.nfs_types.proofs.Utf8.{tests_utf8}
use Rattle.nfs_types.proofs.name.is_utf8.Goals as goal

pub returns : goal.returns
returns c = c.is_ok.ensures.value ∙ tests_utf8 c.from_utf8.result c.args.name.now _ _ c.from_utf8.ensures.cases
