use Rattle.store_folder.proofs.Rooms.{room_law}
use Rattle.store_folder.proofs.laws.room_is_made_where_bytes_were_written.Goals as goal

pub returns : goal.returns
returns c = room_law
