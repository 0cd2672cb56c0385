use Rattle.std.proofs.Common.{◌∙◌, ◌≡◌, ap, ap₂, codes}
use Rattle.clap.specs.Simple.{app_of_fields}
use Rattle.clap.specs.Words.{app_of, new_app, with_rule}
use Rattle.nfsd_options.specs.Simple.{with_version}
use Rattle.nfsd_options.proofs.command.command.Goals as goal

pub returns : goal.returns
returns c =
    let versioned : app_of c.version-2.result ≡ with_version (new_app (codes "nfsd")) =
    ap app_of_fields c.version-2.ensures ∙ ap with_version c.new.ensures.app in
    let bare_app : app_of c.after_help.result ≡ with_version (new_app (codes "nfsd")) =
    ap app_of_fields c.after_help.ensures ∙ (ap app_of_fields c.about.ensures ∙ versioned) in
    let first = c.in_ok-arg.ensures.shape c.book.ensures.1 ∙ ap₂ with_rule bare_app c.book.ensures.0 in
    let second = c.in_ok-arg-2.ensures.shape c.bare.ensures.1 ∙ ap₂ with_rule first c.bare.ensures.0 in
    let third = c.in_ok-arg-3.ensures.shape c.port.ensures.1 ∙ ap₂ with_rule second c.port.ensures.0 in
    let fourth = c.in_ok-arg-4.ensures.shape c.connections.ensures.1 ∙ ap₂ with_rule third c.connections.ensures.0 in
    let fifth = c.in_ok-arg-5.ensures.shape c.concurrent.ensures.1 ∙ ap₂ with_rule fourth c.concurrent.ensures.0 in
    let sixth = c.in_ok-arg-6.ensures.shape c.trail.ensures.1 ∙ ap₂ with_rule fifth c.trail.ensures.0 in
    let seventh = c.in_ok-arg-7.ensures.shape c.stamped.ensures.1 ∙ ap₂ with_rule sixth c.stamped.ensures.0 in
    let eighth = c.in_ok-arg-8.ensures.shape c.privileged_ports.ensures.1 ∙ ap₂ with_rule seventh c.privileged_ports.ensures.0 in
    let ninth = c.in_ok-arg-9.ensures.shape c.store.ensures.1 ∙ ap₂ with_rule eighth c.store.ensures.0 in
    let tenth = c.in_ok-arg-10.ensures.shape c.leases.ensures.1 ∙ ap₂ with_rule ninth c.leases.ensures.0 in
    let eleventh = c.in_ok-arg-11.ensures.shape c.home.ensures.1 ∙ ap₂ with_rule tenth c.home.ensures.0 in
    let twelfth = c.in_ok-arg-12.ensures.shape c.profile.ensures.1 ∙ ap₂ with_rule eleventh c.profile.ensures.0 in
    let thirteenth = c.in_ok-arg-13.ensures.shape c.listen.ensures.1 ∙ ap₂ with_rule twelfth c.listen.ensures.0 in
    let fourteenth = c.in_ok-arg-14.ensures.shape c.allow.ensures.1 ∙ ap₂ with_rule thirteenth c.allow.ensures.0 in
    c.in_ok-command.ensures.shape c.any_port.ensures.1 ∙ ap₂ with_rule fourteenth c.any_port.ensures.0
