-- Whether two remembered summaries are of one access control list (ACL) and one caller, under one book, and what is
-- hashed of a key.
use Rattle.std.specs.Prelude.{Bool, ◌==◌, ◌&&◌}
use Rattle.rpc_record.specs.Identity.{is_same}
use Rattle.access_guard.specs.declared.memory.Key.{Key}

abbrev pub is_key : Key → Key → Bool
is_key a b = (a.epoch == b.epoch) && (a.stamp == b.stamp) && is_same a.caller b.caller
