use Rattle.std.proofs.Common.{sym}
use Rattle.std.specs.Option.{option_map}
use Rattle.checkpoint.proofs.Heads.{head_other, head_read, head_unread}
use Rattle.checkpoint.proofs.head.head_of.Goals as goal

pub returns-in_default-of : goal.returns-in_default-of
returns-in_default-of c =
    head_other c.args.bytes.now c.in-Some.profile (option_map (λ text. text.bytes.now) c.in-Some.text) c.in-Some.ensures (sym c.in_default-of.ensures)

pub returns-in-Ok : goal.returns-in-Ok
returns-in-Ok c =
    head_read c.args.bytes.now c.in-Some.profile (option_map (λ text. text.bytes.now) c.in-Some.text) c.in-Some.ensures c.in-Some-of.limits (sym c.in-Some-of.ensures) c.in-Ok.book c.in-Ok.ensures

pub returns-in-Err : goal.returns-in-Err
returns-in-Err c =
    head_unread c.args.bytes.now c.in-Some.profile (option_map (λ text. text.bytes.now) c.in-Some.text) c.in-Some.ensures c.in-Some-of.limits (sym c.in-Some-of.ensures) c.in-Err.fault c.in-Err.ensures
