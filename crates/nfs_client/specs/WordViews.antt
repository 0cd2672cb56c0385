-- A command, without the place of its words in memory.
use Rattle.std.specs.Prelude.{map}
use Rattle.nfs_client.specs.Words as specs
use Rattle.nfs_client.specs.declared.words.Command.{Command}
use Rattle.nfs_client.specs.declared.words.Command.TheVariants as code

abbrev pub command_line : Command → specs.CommandLine
command_line (code.Ls path) = specs.Ls path.now
command_line (code.Cat path) = specs.Cat path.now
command_line (code.Put path text) = specs.Put path.now text.now
command_line (code.MkDir path) = specs.MkDir path.now
command_line (code.Ln old new) = specs.Ln old.now new.now
command_line (code.Mv old new) = specs.Mv old.now new.now
command_line (code.Rm path) = specs.Rm path.now
command_line (code.ChMod mode path) = specs.ChMod mode.now path.now
command_line (code.GetAcl part path) = specs.GetAcl part path.now
command_line (code.SetAcl part path entries) = specs.SetAcl part path.now (map (λ e. e.now) entries.now)
command_line (code.Access path) = specs.Access path.now
