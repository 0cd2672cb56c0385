-- The result of reading the parts of a checkpoint.
use Rattle.std.specs.Prelude.{◌≡◌, List, [], Option, None, Result, Ok, Err}
use Rattle.xdr_wire.specs.Xdr.{Value}
use Rattle.xdr_wire.specs.Reading.{read_at}
use Rattle.store_journal.specs.Disk.{Bytes}
use Rattle.nfs_types.specs.Limits.{Limits}
use Rattle.who_book.specs.Content.{Content}
use Rattle.who_book.specs.Document.{book_from}
use Rattle.who_book.specs.declared.fault.BookFault.{BookFault}
use Rattle.node_tree.specs.World.{World}
use Rattle.node_tree.specs.Restored.{Begun}
use Rattle.compound_run.specs.ClientState.{ClientState}
use Rattle.tree_parts.specs.Parts.{part}
use Rattle.tree_parts.specs.Taken.{Takes}
use Rattle.checkpoint.specs.declared.fault.CheckpointFault.{CheckpointFault}
use Rattle.checkpoint.specs.declared.fault.CheckpointFault.TheVariants.{Profile, Corrupt, Memory}
use Rattle.checkpoint.specs.Head.{IsText, HeadStates, NamesOther}
use Rattle.checkpoint.specs.Holds.{AppliesWhole, AppliesParts, Restores}

-- the book of a text is read, or an allocation fails, or the text is no book
abbrev pub ReadsBook : Option Bytes → Result Content CheckpointFault → Type 0
ReadsBook text (Ok book) = book_from text ≡ Ok book
ReadsBook text (Err Profile) = ⊥
ReadsBook text (Err Corrupt) = (fault : BookFault) × (book_from text ≡ Err fault)
ReadsBook text (Err Memory) = Unit {0}

-- the same of bytes that may not be UTF-8
abbrev pub BookGives : Option Bytes → Result Content CheckpointFault → Type 0
BookGives text (Ok book) = IsText text × (book_from text ≡ Ok book)
BookGives text (Err Profile) = ⊥
BookGives text (Err Corrupt) = (book : Content) → IsText text → book_from text ≡ Ok book → ⊥
BookGives text (Err Memory) = Unit {0}

abbrev pub HeadGives : Bytes → Result (Limits × Content) CheckpointFault → Type 0
HeadGives bytes (Ok found) = HeadStates bytes found.0 found.1
HeadGives bytes (Err Profile) = NamesOther bytes
HeadGives bytes (Err Corrupt) =
    ((limits : Limits) (book : Content) → HeadStates bytes limits book → ⊥) × (NamesOther bytes → ⊥)
HeadGives bytes (Err Memory) = NamesOther bytes → ⊥

-- the result of a step: it holds, or it never does; or an allocation fails
abbrev pub StepGives : {X : Type 0} → (X → Type 0) → Type 0 → Result X CheckpointFault → Type 0
StepGives holds never (Ok x) = holds x
StepGives holds never (Err Profile) = ⊥
StepGives holds never (Err Corrupt) = never
StepGives holds never (Err Memory) = Unit {0}

abbrev pub ApplyingWholeGives : ClientState → Bytes → Result (Unit {0}) CheckpointFault → ClientState → Type 0
ApplyingWholeGives old bytes result new =
    StepGives (λ done. AppliesWhole old bytes new) ((clients : ClientState) → AppliesWhole old bytes clients → ⊥) result

abbrev pub ApplyingPartsGives : ClientState → List Bytes → Result ClientState CheckpointFault → Type 0
ApplyingPartsGives old parts result =
    StepGives (AppliesParts old parts) ((clients : ClientState) → AppliesParts old parts clients → ⊥) result

-- these bytes are the next part, without a rest
abbrev pub TakesBytes : Limits → Option Begun → Bytes → Begun → Type 0
TakesBytes limits so_far bytes more = (v : Value part) × (read_at part bytes ≡ Ok (v, [])) × Takes limits so_far v more

abbrev pub TakingGives : Limits → Option Begun → Bytes → Result Begun CheckpointFault → Type 0
TakingGives limits so_far bytes result =
    StepGives (TakesBytes limits so_far bytes) ((more : Begun) → TakesBytes limits so_far bytes more → ⊥) result

abbrev pub RestoringGives : Limits → List Bytes → Result World CheckpointFault → Type 0
RestoringGives limits parts result =
    StepGives (Restores limits None parts) ((w : World) → Restores limits None parts w → ⊥) result
