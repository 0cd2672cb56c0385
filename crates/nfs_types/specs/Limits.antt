-- The limits that a profile sets, and the two profiles.
use Rattle.std.specs.Prelude.{◌≡◌, ◌<◌, ◌≤◌, ◌^◌, ◌==◌, if◌then◌else◌, ℕ, Bool, true, false, Option, Some, None}

pub record Limits : Type 0 where
  -- the number of the profile
  pub profile : ℕ
  -- the most connections at a time
  pub connections : ℕ
  -- the most records of clients
  pub clients : ℕ
  -- the most sessions
  pub sessions : ℕ
  -- the most files that may be open at once
  pub opens : ℕ
  -- the most objects in a tree
  pub objects : ℕ
  -- the most names in a directory
  pub names : ℕ
  -- the most names of an object that isn't a directory
  pub links : ℕ
  -- the most bytes of a file
  pub bytes : ℕ
  -- whether times can be set, and the time of the last access is kept
  pub times : Bool

-- the standard profile
abbrev pub standard : Limits
standard = record {
  profile = 0;
  connections = 16;
  clients = 64;
  sessions = 64;
  opens = 4096;
  objects = 16384;
  names = 4096;
  links = 1000;
  bytes = 1048576;
  times = false;
}

-- the office profile
abbrev pub office : Limits
office = record {
  profile = 1;
  connections = 256;
  clients = 256;
  sessions = 256;
  opens = 65536;
  objects = 1048576;
  names = 1048576;
  links = 32767;
  bytes = 1099511627776;
  times = true;
}

-- the limits of the profile of a number
abbrev pub limits_of : ℕ → Option Limits
limits_of number = if number == 0 then Some standard else if number == 1 then Some office else None

-- The limits of a profile. There is room for the root, and no count wraps.
pub record IsAllowed (l : Limits) : Type 0 where
  pub known : limits_of l.profile ≡ Some l
  pub connections : l.connections ≤ 256
  pub clients : l.clients ≤ 256
  pub sessions : l.sessions ≤ 256
  pub opens : l.opens ≤ 65536
  pub root : 1 ≤ l.objects
  pub objects : l.objects < 2 ^ 32
  pub names : l.names < 2 ^ 32
  pub links : 1 < l.links
  pub few_links : l.links < 2 ^ 32
  pub bytes : l.bytes < 2 ^ 62
