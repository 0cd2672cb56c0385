-- How many parts of a checkpoint have the clients of a server.
use Rattle.std.specs.Prelude.{ℕ, ◌+◌, ◌/◌, max}
use Rattle.nfs_types.specs.Limits.{Limits}

-- The first part, and then one for the calls of each 32 sessions or for each 4,096 open files.
abbrev pub client_part_count : Limits → ℕ
client_part_count l = 1 + max (l.sessions / 32) (l.opens / 4096)
