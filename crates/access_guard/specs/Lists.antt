-- The access attributes of objects, and the verdicts of their access control lists (ACLs) for a caller (RFC 8881,
-- section 6.2.1).
use Rattle.std.specs.Prelude.{ℕ, ◌==◌, Bool, length, Option, bit_and}
use Rattle.std.specs.Option.{option_map, option_map_or}
use Rattle.rpc_record.specs.Identity.{Identity}
use Rattle.acl_list.specs.Deciding.{is_true_for, first_match, match_of}
use Rattle.acl_list.specs.Verdicts.{verdict}
use Rattle.acl_list.specs.Summaries.{summary}
use Rattle.acl_list.specs.declared.entry.Who.{Who}
use Rattle.acl_list.specs.declared.answer.Verdict.{Verdict}
use Rattle.acl_list.specs.declared.answer.Verdict.TheVariants.{Missing}
use Rattle.acl_list.specs.declared.answer.FirstMatch.{FirstMatch}
use Rattle.acl_list.specs.declared.answer.FirstMatch.TheVariants.{Unmatched}
use Rattle.acl_list.specs.declared.answer.Summary.{Summary}
use Rattle.node_tree.specs.Judged.{Judged}

-- the access attributes of the object of each number, if any
abbrev pub Lists : Type 0
Lists = ℕ → Option Judged

-- whether a principal matches the caller, for the object
abbrev pub names : Judged → Identity → Who → Bool
names j caller = is_true_for j.owner j.group caller

-- the verdict of an object's ACL on a mask: an object that doesn't exist grants nothing
abbrev pub verdict_of : Option Judged → Identity → ℕ → Verdict
verdict_of o caller mask = option_map_or (λ j. verdict (names j caller) j.list mask) o (Missing 0)

abbrev pub verdict_at : Lists → Identity → ℕ → ℕ → Verdict
verdict_at lists caller object mask = verdict_of (lists object) caller mask

-- the access control entry (ACE) of an object's ACL that decides a bit, which is given by its place
abbrev pub first_match_of : Option Judged → Identity → ℕ → FirstMatch
first_match_of o caller place = option_map_or (λ j. match_of (first_match (names j caller) j.list place)) o Unmatched

abbrev pub first_match_at : Lists → Identity → ℕ → ℕ → FirstMatch
first_match_at lists caller object place = first_match_of (lists object) caller place

-- the summary of the object's ACL for the caller
abbrev pub sum_of : Judged → Identity → Summary
sum_of j caller = summary (names j caller) j.list

-- the summary of the ACL of an object, if it exists
abbrev pub sum_at : Lists → Identity → ℕ → Option Summary
sum_at lists caller object = option_map (λ j. sum_of j caller) (lists object)

-- the mask bits that an object's ACL grants the caller
abbrev pub granted_at : Lists → Identity → ℕ → ℕ
granted_at lists caller object = option_map_or (λ j. (sum_of j caller).granted) (lists object) 0

-- the number of ACEs of an object's ACL
abbrev pub entries_of : Option Judged → ℕ
entries_of o = option_map_or (λ j. length j.list) o 0

abbrev pub entries_at : Lists → ℕ → ℕ
entries_at lists object = entries_of (lists object)

-- an ACL with this summary grants each bit of the mask
abbrev pub grants : Summary → ℕ → Bool
grants s mask = bit_and mask s.granted == mask

-- no ACE of an ACL with this summary watches a bit of the mask for success
abbrev pub is_quiet : Summary → ℕ → Bool
is_quiet s mask = bit_and mask s.watch_ok == 0
