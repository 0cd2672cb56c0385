-- Acts that change one disk into another.
use Rattle.std.specs.Prelude.{◌≡◌}
use Rattle.store_journal.specs.Disk.{Act}

-- this act makes the second disk of the first one
abbrev pub Adding : Type 0 → Type 1
Adding D = D → Act → D → Type 0

-- the disk before and after a call, and how an act changes one disk into another
pub record Passage (D : Type 0) : Type 1 where
  pub adds : Adding D
  pub old : D
  pub new : D

abbrev pub passage : {D : Type 0} → Adding D → D → D → Passage D
passage adds old new = record { adds = adds; old = old; new = new }

-- no act
abbrev pub Unchanged : {D : Type 0} → Passage D → Type 0
Unchanged p = p.new ≡ p.old

-- one act
abbrev pub Once : {D : Type 0} → Passage D → Act → Type 0
Once p act = p.adds p.old act p.new

-- two acts, one after the other
pub record Twice {D : Type 0} (p : Passage D) (first second : Act) : Type 0 where
  pub mid : D
  pub one : p.adds p.old first mid
  pub two : p.adds mid second p.new

-- three acts, one after the other
pub record Thrice {D : Type 0} (p : Passage D) (first second third : Act) : Type 0 where
  pub mid : D
  pub after : D
  pub one : p.adds p.old first mid
  pub two : p.adds mid second after
  pub three : p.adds after third p.new
