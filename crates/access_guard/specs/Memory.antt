-- The summaries that a guard remembers, their agreement with a tree and a book, and how many access control entries
-- (ACEs) it has examined.
use Rattle.std.specs.Prelude.{◌≡◌, ◌⊎◌, ℕ, ◌+◌, ◌-◌, ◌^◌, ◌<◌, ◌≤◌, min, Bool, false, ◌&&◌, ◌||◌, if◌then◌else◌, List}
use Rattle.std.specs.Prelude.{◌∷◌, length, take, Option, Some, None, Contains, MatchOption}
use Rattle.std.specs.Map.{lookup}
use Rattle.lru.specs.LruCache.{promoted}
use Rattle.rpc_record.specs.Identity.{Identity}
use Rattle.who_book.specs.Content.{Content}
use Rattle.who_book.specs.Members.{member}
use Rattle.acl_list.specs.declared.mask.TheConstants.{DELETE, DELETE_CHILD, WRITE_ATTRIBUTES, WRITE_DATA}
use Rattle.acl_list.specs.declared.answer.Summary.{Summary}
use Rattle.node_tree.specs.World.{World}
use Rattle.node_tree.specs.Judged.{Judged, judged_of}
use Rattle.access_rows.specs.declared.demand.Demand.{Demand}
use Rattle.access_rows.specs.declared.demand.Demand.TheVariants.{Bits, Removal, ServerTime}
use Rattle.access_guard.specs.declared.memory.Key.{Key}
use Rattle.access_guard.specs.Asker.{Asker, member_of}
use Rattle.access_guard.specs.Keys.{is_key}
use Rattle.access_guard.specs.Lists.{Lists, sum_of, sum_at, entries_at, grants, is_quiet}

pub record Memory : Type 0 where
  -- the most summaries that may be remembered
  pub capacity : ℕ
  -- the summaries by book, access control list (ACL) and caller, the last one used first
  pub remembered : List (Key × Summary)
  -- the count of ACEs that were examined, up to the limit of 64 bits
  pub examined : ℕ

-- ---- agreement

-- Each summary of this epoch is that of the current ACL with its stamp, for the caller by the book. No key has a stamp
-- or an epoch that is yet to be given out.
pub record Agrees (remembered : List (Key × Summary)) (book : Content) (epoch : ℕ) (w : World) : Type 0 where
  pub known : (key : Key) (sum : Summary) → Contains remembered (key, sum) → key.stamp < w.next_stamp
  pub past : (key : Key) (sum : Summary) → Contains remembered (key, sum) → key.epoch ≤ epoch
  pub now : (key : Key) (sum : Summary) → Contains remembered (key, sum) → key.epoch ≡ epoch
      → (number : ℕ) (j : Judged) → judged_of w number ≡ Some j → j.stamp ≡ key.stamp
      → sum ≡ sum_of j (member book key.caller)

-- ---- look-ups

-- the caller as sent, the epoch of the book, and the stamp of the object's current ACL
abbrev pub key_of : Judged → Asker → Key
key_of j asker = record { epoch = asker.epoch; stamp = j.stamp; caller = asker.sent }

-- `entries` more ACEs are examined
abbrev pub examined_more : ℕ → Memory → Memory
examined_more entries m = record m { examined = min (m.examined + entries) (2 ^ 64 - 1) }

-- a summary that is found moves to the front
abbrev pub used : Key → Memory → Memory
used key m = record m { remembered = promoted (is_key key) m.remembered }

-- a new summary is put in front, and the last one is evicted if the list was full
abbrev pub learnt : Key → Summary → Memory → Memory
learnt key sum m = record m { remembered = (key, sum) ∷ take (m.capacity - 1) m.remembered }

-- A look-up of the summary of an object's ACL. A summary that isn't remembered is computed from the whole ACL and put
-- in front. If an allocation for it fails, it isn't remembered.
abbrev pub LooksUp : Judged → Asker → Memory → Memory → Type 0
LooksUp j asker old new =
    MatchOption (lookup (is_key (key_of j asker)) old.remembered)
    ((new ≡ learnt (key_of j asker) (sum_of j (member_of asker)) (examined_more (length j.list) old))
    ⊎ (new ≡ examined_more (length j.list) old))
    (λ sum. new ≡ used (key_of j asker) old)

-- an object that doesn't exist isn't looked up
abbrev pub LooksUpAt : Lists → Asker → ℕ → Memory → Memory → Type 0
LooksUpAt lists asker object old new = MatchOption (lists object) (new ≡ old) (λ j. LooksUp j asker old new)

-- the look-ups of a demand: of a removal the target's, then the parent's
abbrev pub LooksUpFor : Lists → Asker → Demand → Memory → Memory → Type 0
LooksUpFor lists asker (Bits object mask) old new = LooksUpAt lists asker object old new
LooksUpFor lists asker (Removal parent target) old new =
    (between : Memory) × LooksUpAt lists asker target old between × LooksUpAt lists asker parent between new
LooksUpFor lists asker (ServerTime object) old new = LooksUpAt lists asker object old new

-- ---- decisions

-- A summary alone shows that the mask is granted and that no line is written.
abbrev pub is_silent_grant : Option Summary → ℕ → Bool
is_silent_grant None mask = false
is_silent_grant (Some s) mask = grants s mask && is_quiet s mask

-- The summaries of the target and of the parent alone show that a removal is granted and that no line is written. They
-- show a grant by DELETE or by DELETE_CHILD, and not by ADD_FILE. A summary doesn't distinguish a denied bit from a bit
-- that no ACE matches.
abbrev pub is_silent_removal : Option Summary → Option Summary → Bool
is_silent_removal None on_parent = false
is_silent_removal (Some on_target) None = false
is_silent_removal (Some on_target) (Some on_parent) =
    (grants on_target DELETE || grants on_parent DELETE_CHILD)
    && (is_quiet on_target DELETE && is_quiet on_parent DELETE_CHILD)

-- the bit that decides on a time of the server's if a summary grants it
abbrev pub time_bit : Summary → ℕ
time_bit s = if grants s WRITE_ATTRIBUTES then WRITE_ATTRIBUTES else WRITE_DATA

-- A summary alone shows that a time of the server's is granted and that no line is written.
abbrev pub is_silent_time : Option Summary → Bool
is_silent_time None = false
is_silent_time (Some s) = grants s (time_bit s) && is_quiet s (time_bit s)

abbrev pub grants_silently : Lists → Identity → Demand → Bool
grants_silently lists caller (Bits object mask) = is_silent_grant (sum_at lists caller object) mask
grants_silently lists caller (Removal parent target) =
    is_silent_removal (sum_at lists caller target) (sum_at lists caller parent)
grants_silently lists caller (ServerTime object) = is_silent_time (sum_at lists caller object)

-- the ACEs of the ACLs that a demand reads are examined
abbrev pub walked : Lists → Demand → Memory → Memory
walked lists (Bits object mask) m = examined_more (entries_at lists object) m
walked lists (Removal parent target) m =
    examined_more (entries_at lists parent) (examined_more (entries_at lists target) m)
walked lists (ServerTime object) m = examined_more (entries_at lists object) m

-- The memory after a decision: its look-ups, and a walk over its ACLs if the summaries alone don't decide it.
abbrev pub Decides : Lists → Asker → Demand → Memory → Memory → Type 0
Decides lists asker demand old new =
    (between : Memory) × LooksUpFor lists asker demand old between
    × (new ≡ (if grants_silently lists (member_of asker) demand then between else walked lists demand between))
