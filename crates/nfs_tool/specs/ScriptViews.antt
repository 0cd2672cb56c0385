-- The request of a line, without the place of its words in memory.
use Rattle.nfs_tool.specs.ScriptLines as specs
use Rattle.nfs_client.specs.WordViews.{command_line}
use Rattle.nfs_tool.specs.declared.script_line.Order.{Order}
use Rattle.nfs_tool.specs.declared.script_line.Wish.{Wish}
use Rattle.nfs_tool.specs.declared.script_line.Wish.TheVariants as code

abbrev pub order_line : Order → specs.Order
order_line s = record { uid = s.uid; gid = s.gid; command = command_line s.command }

abbrev pub wish_line : Wish → specs.Wish
wish_line (code.Run order) = specs.Run (order_line order)
wish_line (code.Reload name) = specs.Reload name.now
