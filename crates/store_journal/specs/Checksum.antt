-- The checksums: SipHash-1-3 over the identity of the store, and then the content.
use Rattle.std.specs.Prelude.{ℕ, List}
use Rattle.std.specs.Int.{w64, to_le_bytes}
use Rattle.std.specs.Hash.DefaultHasher as sip
use Rattle.store_journal.specs.declared.current.CurrentForm.{CurrentForm}
use Rattle.store_journal.specs.declared.checksum.Identity.{Identity}
use Rattle.store_journal.specs.declared.head.Head.{Head}

-- the checksum of bytes
unfoldable pub checksum : Identity → List ℕ → ℕ
checksum id bytes =
    let keyed = sip.write (sip.write sip.initial (to_le_bytes w64 id.high)) (to_le_bytes w64 id.low) in
    sip.finish (sip.write keyed bytes)

-- the checksum of a head: over its seven numbers, in their order
unfoldable pub head_checksum : Identity → Head → ℕ
head_checksum id h =
    let keyed = sip.write (sip.write sip.initial (to_le_bytes w64 id.high)) (to_le_bytes w64 id.low) in
    let file = sip.write (sip.write keyed (to_le_bytes w64 h.version)) (to_le_bytes w64 h.generation) in
    let place = sip.write (sip.write file (to_le_bytes w64 h.number)) (to_le_bytes w64 h.before) in
    let what = sip.write (sip.write place (to_le_bytes w64 h.kind)) (to_le_bytes w64 h.length) in
    sip.finish (sip.write what (to_le_bytes w64 h.body))

-- the checksum of CURRENT: over its seven numbers, the identity before the others
unfoldable pub current_checksum : CurrentForm → ℕ
current_checksum c =
    let keyed = sip.write (sip.write sip.initial (to_le_bytes w64 c.high)) (to_le_bytes w64 c.low) in
    let form = sip.write (sip.write keyed (to_le_bytes w64 c.version)) (to_le_bytes w64 c.generation) in
    let file = sip.write (sip.write form (to_le_bytes w64 c.begun)) (to_le_bytes w64 c.slot) in
    sip.finish (sip.write file (to_le_bytes w64 c.machine))
