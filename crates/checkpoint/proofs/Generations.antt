-- No frame of a later generation was ever written, whatever the result of a checkpoint.
use Rattle.std.proofs.Common.{◌≡◌, inl, inr, ℕ, List, [], ◌∷◌, Result, Ok, Err, sym, ◌∙◌, ap, subst}
use Rattle.store_journal.specs.declared.checksum.Identity.{Identity}
use Rattle.store_journal.specs.declared.fault.JournalFault.{JournalFault}
use Rattle.store_journal.specs.declared.fault.JournalFault.TheVariants.{TooLong, Full, NoCheckpoint, Failed}
use Rattle.store_journal.specs.declared.fault.JournalFault.TheVariants as journal
use Rattle.store_journal.specs.declared.journal.Journal.{Journal}
use Rattle.store_journal.specs.Begun.{IsBegun, IsFresh}
use Rattle.store_journal.specs.Disk.{Act, Bytes}
use Rattle.store_journal.specs.Keeping.{BeginGives, IsAsBefore}
use Rattle.store_journal.specs.Serving.{of_acts}
use Rattle.store_journal.proofs.BegunOnce.{fresh_law}
use Rattle.store_journal.proofs.BegunOnce.{new_law as new_generation_law}
use Rattle.checkpoint.specs.declared.fault.WriteFault.TheVariants.{Unfit, Memory, Refused}
use Rattle.checkpoint.specs.Counting.{NewLaw}
use Rattle.checkpoint.specs.Writing.{part_frame, PartsGiven, BegunParts, Ended}
use Rattle.checkpoint.proofs.Counting.{parts_current}

as_before : (j j' : Journal) (acts acts' : List Act) → IsFresh j acts → IsAsBefore (of_acts acts acts') j j' → IsFresh j' acts'
as_before j j' acts acts' fresh same = subst (λ (l : List Act). IsFresh j' l) (sym same.0) (subst (λ (x : Journal). IsFresh x acts) (sym same.1) fresh)

parts_fresh : (j k : Journal) (parts : List Bytes) (acts acts' : List Act) → IsFresh j acts → PartsGiven (of_acts acts acts') j parts k → IsFresh k acts'
parts_fresh j k [] acts acts' fresh given = as_before j k acts acts' fresh given
parts_fresh j k (bytes ∷ parts) acts acts' fresh (mid, x, one, rest) = parts_fresh x k parts mid acts' ((fresh_law j x acts mid fresh).2 (part_frame bytes) one) rest

module _ (j j' : Journal) (machine : ℕ) (parts : List Bytes) (acts acts' : List Act) (fresh : IsFresh j acts) where
  begun_fresh : (k : Journal) (mid : List Act) → BeginGives (of_acts acts mid) j (Ok tt) k → IsFresh k mid
  begun_fresh k mid begun = (new_generation_law j k acts mid fresh.may_begin begun).fresh

  prefix_fresh : (k l : Journal) (mid after : List Act) (prefix : List Bytes) → BeginGives (of_acts acts mid) j (Ok tt) k → PartsGiven (of_acts mid after) k prefix l → IsFresh l after
  prefix_fresh k l mid after prefix begun given = parts_fresh k l prefix mid after (begun_fresh k mid begun) given

  -- the store is the same
  same_identity : (k l : Journal) (mid after : List Act) (prefix : List Bytes) → BeginGives (of_acts acts mid) j (Ok tt) k → PartsGiven (of_acts mid after) k prefix l → l.current.identity ≡ j.current.identity
  same_identity k l mid after prefix begun given = ap (λ c. c.identity) (parts_current k l prefix mid after given) ∙ ap (λ (x : Journal). x.current.identity) begun.3

  at_stop : (fault : JournalFault) (b : BegunParts (of_acts acts acts') j parts (Err (Refused fault)) j') → IsFresh b.ended.k b.ended.mid
  at_stop fault b = prefix_fresh b.k b.ended.k b.mid b.ended.mid b.ended.prefix b.begun b.ended.given

  at_end : (result : Result (Unit {0}) JournalFault) (e : Ended (of_acts acts acts') machine j parts result j') → IsFresh e.k e.mid
  at_end result e = prefix_fresh e.written.k e.k e.written.mid e.mid parts e.written.begun e.written.ended

  stop_same : (fault : JournalFault) (b : BegunParts (of_acts acts acts') j parts (Err (Refused fault)) j') → IsAsBefore (of_acts b.ended.mid acts') b.ended.k j' → IsFresh j' acts'
  stop_same fault b same = as_before b.ended.k j' b.ended.mid acts' (at_stop fault b) same

  end_same : (fault : JournalFault) (e : Ended (of_acts acts acts') machine j parts (Err fault) j') → IsAsBefore (of_acts e.mid acts') e.k j' → IsFresh j' acts'
  end_same fault e same = as_before e.k j' e.mid acts' (at_end (Err fault) e) same

  stop_failed : (b : BegunParts (of_acts acts acts') j parts (Err (Refused Failed)) j') → IsBegun j.current.identity acts'
  stop_failed b =
      subst (λ (id : Identity). IsBegun id acts') (same_identity b.k b.ended.k b.mid b.ended.mid b.ended.prefix b.begun b.ended.given)
      ((fresh_law b.ended.k j' b.ended.mid acts' (at_stop Failed b)).3 (part_frame b.ended.next) b.ended.refused)

  end_failed : (e : Ended (of_acts acts acts') machine j parts (Err Failed) j') → IsBegun j.current.identity acts'
  end_failed e =
      subst (λ (id : Identity). IsBegun id acts') (same_identity e.written.k e.k e.written.mid e.mid parts e.written.begun e.written.ended)
      ((fresh_law e.k j' e.mid acts' (at_end (Err Failed) e)).5 machine e.finished)

pub new_law : NewLaw
new_law j j' machine parts acts acts' (Ok size) fresh gives =
    (fresh_law gives.0.k j' gives.0.mid acts' (at_end j j' machine parts acts acts' fresh (Ok tt) gives.0)).4 machine gives.0.finished
new_law j j' machine parts acts acts' (Err Unfit) fresh gives = as_before j j' acts acts' fresh gives
new_law j j' machine parts acts acts' (Err Memory) fresh (inl same) = as_before j j' acts acts' fresh same
new_law j j' machine parts acts acts' (Err Memory) fresh (inr b) = prefix_fresh j j' machine parts acts acts' fresh b.k j' b.mid acts' b.ended.prefix b.begun b.ended.given
new_law j j' machine parts acts acts' (Err (Refused TooLong)) fresh (inl begun) = absurd begun
new_law j j' machine parts acts acts' (Err (Refused TooLong)) fresh (inr (inl b)) = stop_same j j' machine parts acts acts' fresh TooLong b b.ended.refused.1
new_law j j' machine parts acts acts' (Err (Refused TooLong)) fresh (inr (inr e)) = absurd e.finished
new_law j j' machine parts acts acts' (Err (Refused journal.Memory)) fresh (inl begun) = as_before j j' acts acts' fresh begun
new_law j j' machine parts acts acts' (Err (Refused journal.Memory)) fresh (inr (inl b)) = stop_same j j' machine parts acts acts' fresh journal.Memory b b.ended.refused
new_law j j' machine parts acts acts' (Err (Refused journal.Memory)) fresh (inr (inr e)) = end_same j j' machine parts acts acts' fresh journal.Memory e e.finished
new_law j j' machine parts acts acts' (Err (Refused Full)) fresh (inl begun) = as_before j j' acts acts' fresh begun.1
new_law j j' machine parts acts acts' (Err (Refused Full)) fresh (inr (inl b)) = stop_same j j' machine parts acts acts' fresh Full b b.ended.refused.1
new_law j j' machine parts acts acts' (Err (Refused Full)) fresh (inr (inr e)) = end_same j j' machine parts acts acts' fresh Full e e.finished.1
new_law j j' machine parts acts acts' (Err (Refused NoCheckpoint)) fresh (inl begun) = absurd begun
new_law j j' machine parts acts acts' (Err (Refused NoCheckpoint)) fresh (inr (inl b)) = stop_same j j' machine parts acts acts' fresh NoCheckpoint b b.ended.refused.1
new_law j j' machine parts acts acts' (Err (Refused NoCheckpoint)) fresh (inr (inr e)) = end_same j j' machine parts acts acts' fresh NoCheckpoint e e.finished.1
new_law j j' machine parts acts acts' (Err (Refused Failed)) fresh (inl begun) = (fresh_law j j' acts acts' fresh).6 begun
new_law j j' machine parts acts acts' (Err (Refused Failed)) fresh (inr (inl b)) = stop_failed j j' machine parts acts acts' fresh b
new_law j j' machine parts acts acts' (Err (Refused Failed)) fresh (inr (inr e)) = end_failed j j' machine parts acts acts' fresh e
