-- A generation is begun once. No frame of it was ever written before that.
use Rattle.std.specs.Prelude.{◌≡◌, ◌≤◌, ◌+◌, ℕ, List, [], ◌∷◌, Some, Ok, Err}
use Rattle.store_journal.specs.declared.current.Current.{Current}
use Rattle.store_journal.specs.declared.checksum.Identity.{Identity}
use Rattle.store_journal.specs.declared.fault.JournalFault.TheVariants.{Failed}
use Rattle.store_journal.specs.declared.head.Head.{Head}
use Rattle.store_journal.specs.declared.journal.Journal.{Journal}
use Rattle.store_journal.specs.declared.writing.Position.{Position}
use Rattle.store_journal.specs.Current.{current_bytes, IsFitCurrent}
use Rattle.store_journal.specs.Disk.{Bytes, Act, Read, Unread, Found, Unfound, Wrote, Tore, Synced, Unsynced, Turned}
use Rattle.store_journal.specs.Disk.{Unturned, on_current, MayRead}
use Rattle.store_journal.specs.Files.{LastFrame}
use Rattle.store_journal.specs.Frames.{Frame, head_at, start}
use Rattle.store_journal.specs.Keeping.{AppendGives, BeginGives, PartGives, FinishGives, ResumeGives}
use Rattle.store_journal.specs.Serving.{of_acts}

-- if the bytes begin with a head, its generation is at most `most`
abbrev pub IsUpTo : Identity → ℕ → Bytes → Type 0
IsUpTo id most bytes = (h : Head) → head_at id bytes ≡ Some h → h.generation ≤ most

-- no frame of a generation above `most` was ever written
abbrev pub AreUpTo : Identity → ℕ → List Act → Type 0
AreUpTo id most [] = Unit {0}
AreUpTo id most (Read found ∷ acts) = AreUpTo id most acts
AreUpTo id most (Unread ∷ acts) = AreUpTo id most acts
AreUpTo id most (Found s bytes ∷ acts) = AreUpTo id most acts
AreUpTo id most (Unfound s ∷ acts) = AreUpTo id most acts
AreUpTo id most (Wrote s at bytes ∷ acts) = IsUpTo id most bytes × AreUpTo id most acts
AreUpTo id most (Tore s at bytes ∷ acts) = IsUpTo id most bytes × AreUpTo id most acts
AreUpTo id most (Synced s ∷ acts) = AreUpTo id most acts
AreUpTo id most (Unsynced s ∷ acts) = AreUpTo id most acts
AreUpTo id most (Turned bytes ∷ acts) = AreUpTo id most acts
AreUpTo id most (Unturned bytes ∷ acts) = AreUpTo id most acts

-- a crash may leave this CURRENT
abbrev pub MayBe : List Act → Current → Type 0
MayBe acts c = MayRead (on_current acts) (Some (current_bytes c))

-- **Whichever CURRENT a crash leaves, no frame of a generation after its `begun` was ever written.** Some number is
-- at least each active generation among them, and at most each `begun`.
pub record IsBegun (id : Identity) (acts : List Act) : Type 0 where
  pub each : (c : Current) → IsFitCurrent c → MayBe acts c → AreUpTo id c.begun acts
  pub low : ℕ
  pub counts : (c : Current) → IsFitCurrent c → MayBe acts c → c.generation ≤ low
  pub begun : (c : Current) → IsFitCurrent c → MayBe acts c → low ≤ c.begun

-- these facts hold of the CURRENT that the journal has in memory
pub record MayBegin (j : Journal) (acts : List Act) : Type 0 where
  pub up_to : AreUpTo j.current.identity j.current.begun acts
  pub least : j.current.generation ≤ j.current.begun
  pub place_is : j.position.place.generation ≡ j.current.generation

-- CURRENT on the disk is the one in memory, and no replacement is in doubt
pub record IsFresh (j : Journal) (acts : List Act) : Type 0 where
  pub may_begin : MayBegin j acts
  pub fit : IsFitCurrent j.current
  pub last_is : (on_current acts).last ≡ Some (current_bytes j.current)
  pub no_doubt : (on_current acts).doubtful ≡ []
  pub next_is : (e : Position) → j.next ≡ Some e → e.place.generation ≡ j.current.begun

-- **The generation that is begun is new**: no frame of it, nor of a later one, was ever written.
pub record BeginsNew (j j' : Journal) (acts acts' : List Act) : Type 0 where
  pub next : j'.current.begun ≡ j.current.begun + 1
  pub up_to : AreUpTo j.current.identity j.current.begun acts
  pub fresh : IsFresh j' acts'

abbrev pub NewGenerationLaw : Type 0
NewGenerationLaw =
    (j j' : Journal) (acts acts' : List Act) → MayBegin j acts → BeginGives (of_acts acts acts') j (Ok tt) j'
    → BeginsNew j j' acts acts'

-- each call keeps the next generation unused, and if it fails a start finds it unused
abbrev pub FreshLaw : Type 0
FreshLaw =
    (j j' : Journal) (acts acts' : List Act) → IsFresh j acts
    → ((f : Frame) → AppendGives (of_acts acts acts') j f (Ok tt) j' → IsFresh j' acts')
    × ((f : Frame) → AppendGives (of_acts acts acts') j f (Err Failed) j' → IsBegun j.current.identity acts')
    × ((f : Frame) → PartGives (of_acts acts acts') j f (Ok tt) j' → IsFresh j' acts')
    × ((f : Frame) → PartGives (of_acts acts acts') j f (Err Failed) j' → IsBegun j.current.identity acts')
    × ((machine : ℕ) → FinishGives (of_acts acts acts') machine j (Ok tt) j' → IsFresh j' acts')
    × ((machine : ℕ) → FinishGives (of_acts acts acts') machine j (Err Failed) j' → IsBegun j.current.identity acts')
    × (BeginGives (of_acts acts acts') j (Err Failed) j' → IsBegun j.current.identity acts')

-- a start keeps the next generation unused, whether it succeeds or fails
abbrev pub AgainLaw : Type 0
AgainLaw =
    (j : Journal) (c : Current) (acts acts' : List Act) (file : Bytes) (frames : List Frame) (rest : Bytes)
    (position : Position) (last_at : ℕ) (last : Bytes)
    → IsBegun c.identity acts → IsFitCurrent c → MayBe acts c
    → LastFrame c.identity (start c.generation) file frames rest last_at last
    → position.place.generation ≡ c.generation
    → (ResumeGives (of_acts acts acts') c position last_at last (Ok j) → IsFresh j acts')
    × (ResumeGives (of_acts acts acts') c position last_at last (Err Failed) → IsBegun c.identity acts')
