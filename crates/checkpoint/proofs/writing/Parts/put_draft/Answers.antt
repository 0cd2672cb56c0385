use Rattle.std.proofs.Common.{◌∷◌, [], List, ℕ, Vec, map, ◌∙◌, ap, subst}
use Rattle.store_journal.specs.Disk.{Bytes}
use Rattle.store_journal.specs.Passage.{passage}
use Rattle.checkpoint.specs.Writing.{PartsEnd}
use Rattle.checkpoint.specs.internal.Drafting.{draft_of}
use Rattle.checkpoint.specs.internal.Writing.{counted}
use Rattle.checkpoint.proofs.Putting.{ends_more, ends_then, on_ok}
use Rattle.checkpoint.proofs.writing.Parts.put_draft.Goals as goal

abbrev bytes_in : {A : Type 0} → Vec ℕ A → Bytes
bytes_in b = b.items

pub returns-in-Err-clause-ends : goal.returns-in-Err-clause-ends
returns-in-Err-clause-ends g c =
    let d = draft_of c.args.draft.now in
    ends_more g.D.Disk.adds c.args.journal.now c.put_bytes.new.journal (d.head ∷ []) d.clients c.in-Err.fault c.args.disk.now c.put_bytes.new.disk c.in-Err.ensures.ends

pub returns-clause-ends : goal.returns-clause-ends
returns-clause-ends g c =
    let d = draft_of c.args.draft.now in
    ends_then g.D.Disk.adds c.args.journal.now c.put_bytes.new.journal c.put_made.new.journal (d.head ∷ []) d.clients c.put_made.result c.args.disk.now c.put_bytes.new.disk c.put_made.new.disk c.in-Ok.ensures.ends
    (subst (λ (l : List (Vec ℕ g.row.A.Denot)). PartsEnd (passage g.D.Disk.adds c.put_bytes.new.disk c.put_made.new.disk) c.put_bytes.new.journal (map bytes_in l) c.put_made.result c.put_made.new.journal) c.as_slice.ensures.value c.put_made.ensures.ends)

pub returns-clause-size : goal.returns-clause-size
returns-clause-size g c =
    let d = draft_of c.args.draft.now in
    on_ok c.put_made.result _ _ c.put_made.ensures.size
    (λ sized. sized ∙ ap (λ (l : List (Vec ℕ g.row.A.Denot)). counted c.put_bytes.new.self.size (map bytes_in l)) c.as_slice.ensures.value ∙ ap (λ (n : ℕ). counted n d.clients) c.in-Ok.ensures.size)
