use Rattle.std.proofs.Common.{◌≡◌, ◌≤◌, ℕ, true, length, take}
use Rattle.who_book.specs.Indexes.{AreAdded, groups_in}
use Rattle.who_book.specs.Members.{are_users}
use Rattle.who_book.specs.Outlines.{texts_of}
use Rattle.who_book.proofs.members.Members.enroll.Given as goal

abbrev pub invariant-loop-name : goal.invariant-loop-name
invariant-loop-name l = record {
  users : are_users l.users (texts_of (take l.name-index l.names)) ≡ true;
  added : AreAdded l.users l.gid (texts_of (take l.name-index l.names)) (groups_in l.fn.self) (groups_in l.self);
  few : (n : ℕ) → length (groups_in l.self n) ≤ 17;
}
