use Rattle.std.proofs.Common.{◌≡◌, ◌∙◌, ap, ap₂, []}
use Rattle.std.specs.Str.{bytes_eq}
use Rattle.rpc_record.specs.Identity.{Identity, identity}
use Rattle.who_book.specs.Members.{member}
use Rattle.nfsd.proofs.Members.{members_differ}
use Rattle.nfsd.proofs.book_rule.has_members.Goals as goal

pub returns : goal.returns
returns c =
    let book = c.args.book.now in
    let first : c.groups.result.now ≡ (member book (identity 0 0 [])).groups =
    c.groups.ensures.groups ∙ ap (λ (i : Identity). i.groups) (c.member-first.ensures ∙ ap (member book) c.new.ensures) in
    let second : c.groups-2.result.now ≡ (member book (identity 0 1 [])).groups =
    c.groups-2.ensures.groups ∙ ap (λ (i : Identity). i.groups) (c.member-second.ensures ∙ ap (member book) c.new-2.ensures) in
    let compared : c.eq.result ≡ bytes_eq c.groups.result.now c.groups-2.result.now = c.eq.ensures in
    compared ∙ ap₂ bytes_eq first second ∙ members_differ book
