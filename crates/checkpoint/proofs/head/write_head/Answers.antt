use Rattle.std.proofs.Common.{ap}
use Rattle.std.specs.Option.{option_map}
use Rattle.checkpoint.proofs.Heads.{head_written}
use Rattle.checkpoint.proofs.head.write_head.Goals as goal

pub returns : goal.returns
returns g c =
    head_written c.args.limits c.profile.result c.args.book.now (option_map (λ text. text.bytes.now) c.in_ok-text.text) c.in_ok-writer.writer c.write.new.writer c.into_bytes.result.items c.profile.ensures.number c.profile.ensures.allowed c.in_ok-text.ensures.text c.in_ok-text.ensures.book (ap (λ b. b.bytes) c.in_ok-writer.ensures) c.in-Ok.ensures.has_spelling c.in-Ok.ensures.puts c.into_bytes.ensures
