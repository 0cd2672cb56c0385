-- Loading another book of names: the text of a name is read as a book, and the hub loads it.
use Rattle.std.specs.Prelude.{◌≡◌, ℕ, List, Option, Some, None, Result, Ok, Err}
use Rattle.who_book.specs.Content.{Content}
use Rattle.who_book.specs.Document.{Answers}
use Rattle.nfs_hub.specs.Machine.{Reload}
use Rattle.nfs_hub.specs.Hub.{ReloadGives}
use Rattle.nfs_hub.specs.declared.hub.Hub.{Hub}
use Rattle.nfs_hub.specs.declared.fault.Unloaded.{Unloaded}
use Rattle.nfs_tool.specs.LocalStreams.{ExtendsHistory}
use Rattle.nfs_tool.specs.declared.reloading.LoadFault.{LoadFault}
use Rattle.nfs_tool.specs.declared.reloading.LoadFault.TheVariants.{NoText, NoBook, Exhausted}

-- the relation of texts by their names before a call, the name, its text or none, and the texts after the call
abbrev pub Giving : Type 0 → Type 1
Giving T = T → List ℕ → Option (List ℕ) → T → Type 0

-- the hub and the texts by their names that a script borrows
pub record Lent (A T : Type 0) : Type 0 where
  pub hub : Hub A
  pub texts : T

abbrev pub lent : {A T : Type 0} → Hub A → T → Lent A T
lent hub texts = record { hub = hub; texts = texts }

-- The text of the name is this book; or the name has no text; or the text is no book, by this fault.
abbrev pub BookGives : {T : Type 0} → Giving T → List ℕ → T → T → Result Content LoadFault → Type 0
BookGives gives name old new (Ok book) = (text : List ℕ) × gives old name (Some text) new × Answers text (Ok book)
BookGives gives name old new (Err NoText) = gives old name None new
BookGives gives name old new (Err (NoBook fault)) =
    (text : List ℕ) × gives old name (Some text) new × Answers text (Err fault)
BookGives gives name old new (Err Exhausted) = ⊥

-- a hub loads a book, with this result
pub record BookLoads {A : Type 0} (book : Content) (answer : Result Content Unloaded) (old new : Hub A) : Type 0 where
  pub extends : ExtendsHistory (Reload book) old new
  pub gives : ReloadGives book answer old new

-- The hub takes the book, or has no epoch for it. Without a book the hub is unchanged.
abbrev pub Loads : {A T : Type 0} → Giving T → List ℕ → Lent A T → Lent A T → Result (Unit {0}) LoadFault → Type 0
Loads gives name old new (Ok done) =
    (book : Content) × (earlier : Content) × BookGives gives name old.texts new.texts (Ok book)
    × BookLoads book (Ok earlier) old.hub new.hub
Loads gives name old new (Err NoText) = BookGives gives name old.texts new.texts (Err NoText) × (new.hub ≡ old.hub)
Loads gives name old new (Err (NoBook fault)) =
    BookGives gives name old.texts new.texts (Err (NoBook fault)) × (new.hub ≡ old.hub)
Loads gives name old new (Err Exhausted) =
    (book : Content) × (unloaded : Unloaded) × BookGives gives name old.texts new.texts (Ok book)
    × BookLoads book (Err unloaded) old.hub new.hub
