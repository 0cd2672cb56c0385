use Rattle.std.proofs.Common.{◌∙◌}
use Rattle.nfs_tool.proofs.ScriptTexts.{tests_utf8}
use Rattle.nfs_tool.proofs.script_line.is_text.Goals as goal

pub returns : goal.returns
returns c = c.is_ok.ensures.value ∙ tests_utf8 c.from_utf8.result c.args.line.now _ _ c.from_utf8.ensures.cases
