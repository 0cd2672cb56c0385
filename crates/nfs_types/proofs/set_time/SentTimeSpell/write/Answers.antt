use Rattle.std.proofs.Common.{ℤ, subst, rules, inl, inr}
use Rattle.std.specs.Int.{w64}
use Rattle.std.proofs.lemmas.Int.{to_z-of_z}
use Rattle.xdr_wire.specs.Xdr.{spelling}
use Rattle.xdr_wire.specs.Buffer.{Puts}
use Rattle.nfs_types.specs.Times.{settime}
use Rattle.nfs_types.proofs.set_time.SentTimeSpell.write.Goals as goal

pub returns-in-Client-clause-puts : goal.returns-in-Client-clause-puts
returns-in-Client-clause-puts g c =
    let seconds = c.in-Client.seconds in
    let nanoseconds = c.in-Client.nanoseconds in
    rw c.in-Client.is
    (subst (λ (z : ℤ). Puts c.args.writer.now c.write-in-Client.new.writer (spelling settime (inr (inl (z, nanoseconds)))) c.write-in-Client.result)
    (to_z-of_z w64 seconds (search rules)) c.write-in-Client.ensures.puts)
