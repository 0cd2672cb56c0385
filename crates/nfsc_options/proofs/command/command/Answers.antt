use Rattle.std.proofs.Common.{◌∙◌, ◌≡◌, ap, ap₂, codes}
use Rattle.clap.specs.Simple.{app_of_fields}
use Rattle.clap.specs.Words.{app_of, new_app, with_rule}
use Rattle.nfsc_options.proofs.command.command.Goals as goal

pub returns : goal.returns
returns c =
    let bare_app : app_of c.after_help.result ≡ new_app (codes "nfsc") =
    ap app_of_fields c.after_help.ensures ∙ (ap app_of_fields c.about.ensures ∙ c.new.ensures.app) in
    let first = c.in_ok-arg.ensures.shape c.port.ensures.1 ∙ ap₂ with_rule bare_app c.port.ensures.0 in
    let second = c.in_ok-arg-2.ensures.shape c.uid.ensures.1 ∙ ap₂ with_rule first c.uid.ensures.0 in
    let third = c.in_ok-arg-3.ensures.shape c.gid.ensures.1 ∙ ap₂ with_rule second c.gid.ensures.0 in
    let fourth = c.in_ok-arg-4.ensures.shape c.words.ensures.1 ∙ ap₂ with_rule third c.words.ensures.0 in
    let fifth = c.in_ok-arg-5.ensures.shape c.timeout.ensures.1 ∙ ap₂ with_rule fourth c.timeout.ensures.0 in
    let sixth = c.in_ok-arg-6.ensures.shape c.groups.ensures.1 ∙ ap₂ with_rule fifth c.groups.ensures.0 in
    let seventh = c.in_ok-arg-7.ensures.shape c.person.ensures.1 ∙ ap₂ with_rule sixth c.person.ensures.0 in
    let eighth = c.in_ok-arg-8.ensures.shape c.book.ensures.1 ∙ ap₂ with_rule seventh c.book.ensures.0 in
    c.in_ok-command.ensures.shape c.host.ensures.1 ∙ ap₂ with_rule eighth c.host.ensures.0
