-- Whether two remembered summaries are of one access control list (ACL) and one caller, under one book, and what is
-- hashed of a key.
use Rattle.std.specs.Prelude.{◌++◌}
use Rattle.std.specs.Hash.{HashWrites, u64}
use Rattle.std.specs.List.{flat_map}
use Rattle.access_guard.specs.declared.memory.Key.{Key}

-- the stamp of the ACL, and the caller's user, group and groups, each a word of 64 bits; the epoch isn't hashed
abbrev pub hashed : Key → HashWrites
hashed k = u64 k.stamp ++ u64 k.caller.uid ++ u64 k.caller.gid ++ flat_map u64 k.caller.groups
