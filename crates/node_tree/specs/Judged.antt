-- The attributes of an object that decide access, and the stamp that represents them.
use Rattle.std.specs.Prelude.{ℕ, ◌≡◌, ◌<◌, ◌≤◌, List, Option, Some}
use Rattle.std.specs.Option.{option_map}
use Rattle.acl_list.specs.declared.entry.Entry.{Entry}
use Rattle.node_tree.specs.World.{World, Object, object}

pub record Judged : Type 0 where
  pub stamp : ℕ
  pub owner : ℕ
  pub group : ℕ
  pub list : List Entry

abbrev pub judged : Object → Judged
judged o = record { stamp = o.stamp; owner = o.owner; group = o.group; list = o.list }

-- the access attributes of the object of a number
abbrev pub judged_of : World → ℕ → Option Judged
judged_of w number = option_map judged (object w number)

-- An object whose stamp is from before has had it since then, with the same access control list, owner and group.
-- Access that was decided under a stamp is therefore still decided the same way.
pub record KeepsJudged (old new : World) : Type 0 where
  pub stamps_rise : old.next_stamp ≤ new.next_stamp
  pub same : (number : ℕ) (j : Judged) → judged_of new number ≡ Some j → j.stamp < old.next_stamp
      → judged_of old number ≡ Some j
