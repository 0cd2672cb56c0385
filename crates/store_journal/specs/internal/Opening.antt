-- A start reads CURRENT and the file that it names.
use Rattle.std.specs.Prelude.{◌≡◌, ◌≢◌, ◌⊎◌, [], Option, Some, None, Ok, Err}
use Rattle.store_journal.specs.declared.current.Current.{Current}
use Rattle.store_journal.specs.declared.disk.Slot.TheVariants.{A, B}
use Rattle.store_journal.specs.declared.fault.CurrentFault.TheVariants.{Version as Another, Corrupt as Broken}
use Rattle.store_journal.specs.declared.fault.OpenFault.{OpenFault}
use Rattle.store_journal.specs.declared.fault.OpenFault.TheVariants.{Failed, Version, Corrupt, Memory}
use Rattle.store_journal.specs.Current.{current_in}
use Rattle.store_journal.specs.Disk.{Bytes, Found, Unfound}
use Rattle.store_journal.specs.Passage.{Passage, Unchanged, Once, Twice}

-- The two cases: without CURRENT both files are read, and with it the one that it names.
abbrev pub NoFiles : {D : Type 0} → Passage D → Option Current → Bytes → Type 0
NoFiles p None bytes = (bytes ≡ []) × Twice p (Found A []) (Found B [])
NoFiles p (Some c) bytes = ⊥

abbrev pub NotBoth : {D : Type 0} → Passage D → Type 0
NotBoth p = Once p (Unfound A) ⊎ Twice p (Found A []) (Unfound B)

abbrev pub NoneFails : {D : Type 0} → Passage D → OpenFault → Type 0
NoneFails p Failed = NotBoth p
NoneFails p Version = ⊥
NoneFails p Corrupt =
    ((a : Bytes) × (a ≢ []) × Once p (Found A a)) ⊎ ((b : Bytes) × (b ≢ []) × Twice p (Found A []) (Found B b))
NoneFails p Memory = NotBoth p

abbrev pub LoadsNamed : {D : Type 0} → Passage D → Bytes → Option Current → Bytes → Type 0
LoadsNamed p found None bytes = ⊥
LoadsNamed p found (Some c) bytes =
    (current_in found ≡ Ok c) × (((c.generation ≡ 0) × Unchanged p × (bytes ≡ []))
    ⊎ ((c.generation ≢ 0) × Once p (Found c.slot bytes)))

abbrev pub NamedFails : {D : Type 0} → Passage D → Bytes → OpenFault → Type 0
NamedFails p found Failed = (c : Current) × (current_in found ≡ Ok c) × Once p (Unfound c.slot)
NamedFails p found Version = (current_in found ≡ Err Another) × Unchanged p
NamedFails p found Corrupt = (current_in found ≡ Err Broken) × Unchanged p
NamedFails p found Memory = (c : Current) × (current_in found ≡ Ok c) × Once p (Unfound c.slot)
