use Rattle.std.proofs.Common.{◌≡◌, ◌∙◌, List, ℕ, Vec, refl, subst}
use Rattle.store_journal.specs.Disk.{Bytes}
use Rattle.store_journal.specs.Passage.{passage}
use Rattle.checkpoint.specs.Writing.{PartsGiven}
use Rattle.checkpoint.specs.internal.Writing.{counted}
use Rattle.checkpoint.proofs.Putting.{given_none, made_all, made_counted, made_given, made_stop}
use Rattle.checkpoint.proofs.writing.Parts.put_made.Goals as goal

abbrev bytes_in : {A : Type 0} → Vec ℕ A → Bytes
bytes_in b = b.items

pub loop-bytes-init : goal.loop-bytes-init
loop-bytes-init g c = record { given = given_none g.D.Disk.adds c.args.journal.now c.args.disk.now; size = refl; stays = refl }

pub loop-bytes-preserved : goal.loop-bytes-preserved
loop-bytes-preserved g c = record {
  given = made_given g.D.Disk.adds bytes_in c.args.parts.now c.loop-bytes.bytes-index c.bytes-item.result c.loop-bytes-test.true c.bytes-item.is c.args.journal.now c.loop-bytes.journal c.put_bytes.new.journal c.args.disk.now c.loop-bytes.disk c.put_bytes.new.disk c.loop-bytes.invariant.given c.in-Ok.ensures.ends;
  size = made_counted bytes_in c.args.parts.now c.loop-bytes.bytes-index c.bytes-item.result c.loop-bytes-test.true c.bytes-item.is c.args.self.now.size c.loop-bytes.self.size c.put_bytes.new.self.size c.loop-bytes.invariant.size c.in-Ok.ensures.size;
  stays = c.in-Ok.ensures.stays ∙ c.loop-bytes.invariant.stays;
}

pub returns-in-Err-clause-ends : goal.returns-in-Err-clause-ends
returns-in-Err-clause-ends g c =
    made_stop g.D.Disk.adds bytes_in c.args.parts.now c.loop-bytes.bytes-index c.bytes-item.result c.loop-bytes-test.true c.bytes-item.is c.args.journal.now c.loop-bytes.journal c.put_bytes.new.journal c.args.disk.now c.loop-bytes.disk c.put_bytes.new.disk c.loop-bytes.invariant.given c.in-Err.fault c.in-Err.ensures.ends

pub returns-clause-ends : goal.returns-clause-ends
returns-clause-ends g c =
    subst (λ (l : List Bytes). PartsGiven (passage g.D.Disk.adds c.args.disk.now c.loop-bytes.disk) c.args.journal.now l c.loop-bytes.journal)
    (made_all bytes_in c.args.parts.now c.loop-bytes.bytes-index c.loop-bytes-test.false) c.loop-bytes.invariant.given

pub returns-clause-size : goal.returns-clause-size
returns-clause-size g c =
    subst (λ (l : List Bytes). c.loop-bytes.self.size ≡ counted c.args.self.now.size l)
    (made_all bytes_in c.args.parts.now c.loop-bytes.bytes-index c.loop-bytes-test.false) c.loop-bytes.invariant.size
