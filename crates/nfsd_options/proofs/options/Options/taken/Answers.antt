use Rattle.std.proofs.Common.{inl, inr, ◌∙◌, ◌≡◌, ℕ, Bool, Err, Some, [], ap, sym, subst, map, codes, arith, rules, unwrap_or, List}
use Rattle.std.specs.Str.Parse.{ExplainsUnsignedError, HasUnsignedDigitsIfOk, ParsesUnsigned}
use Rattle.clap.specs.Faults.{is_simple_and_free}
use Rattle.clap.specs.Kinds.{HasKind}
use Rattle.clap.specs.Matches.{found_of}
use Rattle.clap.specs.Words.{Text, app_of, fault_of, is_simple, matches_of, rows_of}
use Rattle.nfsd_options.specs.Given.{IsNumber, default_connections, given}
use Rattle.std.specs.Prelude.{Any}
use Rattle.std.specs.Net.Grammar.{IsIpText, Parses}
use Rattle.std.specs.declared.net.parser.AddrParseError.{AddrParseError}
use Rattle.std.specs.declared.net.ip_addr.IpAddr.{IpAddr}
use Rattle.networks.specs.Text.{HasFault, Reads, Writes}
use Rattle.networks.specs.declared.reading.NetworkError.{NetworkError}
use Rattle.nfsd_options.specs.Lists.{WriteEach, texts_of}
use Rattle.nfsd_options.specs.Profiles.{ReadsProfile, profile_of}
use Rattle.nfsd_options.specs.Simple.{nfsd}
use Rattle.nfsd_options.proofs.Rules.{any_port_stands, bare_is_at, concurrent_is_at, connections_is_at, leases_is_at, port_is_at, privileged_is_at, stamped_is_at}
use Rattle.nfsd_options.proofs.Stated.{fails_first, fails_then, flag_given, list_said, number_given, text_given, unnamed}
use Rattle.nfsd_options.proofs.options.Options.taken.Goals as goal

pub returns-in_err-matches-clause-refused : goal.returns-in_err-matches-clause-refused
returns-in_err-matches-clause-refused g c =
    let words : List Text = map g.S.AsStr.text c.args.words.now in
    let is : app_of c.in_ok-command.field-0 ≡ nfsd = c.in_ok-command.ensures in
    let err : c.from_residual-in_err-matches.result ≡ Err c.in_err-matches.field-0.0 = search rules in
    fails_first words _ _ err
    (subst (λ a. HasKind (fault_of a words) c.in_err-matches.field-0.0) is (c.in_err-matches.ensures.kinds (ap is_simple_and_free is)))

pub returns-in_err-listen-clause-refused : goal.returns-in_err-listen-clause-refused
returns-in_err-listen-clause-refused g c =
    let words : List Text = map g.S.AsStr.text c.args.words.now in
    let old = c.in_ok-command.field-0 in
    let m = c.in_ok-matches.matches in
    let is : app_of old ≡ nfsd = c.in_ok-command.ensures in
    let rows : rows_of (found_of m) ≡ matches_of nfsd words =
    (c.in_ok-matches.ensures.matches (ap is_simple is)).0 ∙ ap (λ a. matches_of a words) is in
    let none : fault_of nfsd words ≡ [] = ap (λ a. fault_of a words) (sym is) ∙ c.in_ok-matches.ensures.kinds (ap is_simple_and_free is) in
    let err : c.from_residual-in_err-listen.result ≡ Err c.in_err-listen.field-0.0 = search rules in
    fails_then (Parses {E = AddrParseError} IsIpText) words (texts_of c.get_strs.result) _ _ err none c.in_err-listen.ensures
    (λ any. inl (subst (λ texts. Any (λ text. (a : IpAddr) → ¬ (IsIpText text a)) texts)
    (list_said old m c.in_ok-matches.ensures.parsed is words rows (codes "listen") c.get_strs.result c.get_strs.ensures)
    (any.0, any.1, any.2, any.3, any.4.1)))

pub returns-in_err-allow-clause-refused : goal.returns-in_err-allow-clause-refused
returns-in_err-allow-clause-refused g c =
    let words : List Text = map g.S.AsStr.text c.args.words.now in
    let old = c.in_ok-command.field-0 in
    let m = c.in_ok-matches.matches in
    let is : app_of old ≡ nfsd = c.in_ok-command.ensures in
    let rows : rows_of (found_of m) ≡ matches_of nfsd words =
    (c.in_ok-matches.ensures.matches (ap is_simple is)).0 ∙ ap (λ a. matches_of a words) is in
    let none : fault_of nfsd words ≡ [] = ap (λ a. fault_of a words) (sym is) ∙ c.in_ok-matches.ensures.kinds (ap is_simple_and_free is) in
    let err : c.from_residual-in_err-allow.result ≡ Err c.in_err-allow.field-0.0 = search rules in
    fails_then Reads words (texts_of c.get_strs-2.result) _ _ err none c.in_err-allow.ensures
    (λ any. inr (inl (subst (λ texts. Any (λ text. (fault : NetworkError) × HasFault text fault) texts)
    (list_said old m c.in_ok-matches.ensures.parsed is words rows (codes "allow") c.get_strs-2.result c.get_strs-2.ensures) any)))

pub returns-in_err-profile-clause-refused : goal.returns-in_err-profile-clause-refused
returns-in_err-profile-clause-refused g c =
    let words : List Text = map g.S.AsStr.text c.args.words.now in
    let old = c.in_ok-command.field-0 in
    let m = c.in_ok-matches.matches in
    let is : app_of old ≡ nfsd = c.in_ok-command.ensures in
    let rows : rows_of (found_of m) ≡ matches_of nfsd words =
    (c.in_ok-matches.ensures.matches (ap is_simple is)).0 ∙ ap (λ a. matches_of a words) is in
    let none : fault_of nfsd words ≡ [] = ap (λ a. fault_of a words) (sym is) ∙ c.in_ok-matches.ensures.kinds (ap is_simple_and_free is) in
    let err : c.from_residual-in_err-profile.result ≡ Err c.in_err-profile.field-0.0 = search rules in
    let given = c.get_str.ensures ∙ text_given old m c.in_ok-matches.ensures.parsed is words rows (codes "profile") in
    unnamed words _ _ err none (subst (λ name. ReadsProfile name (Err c.in_err-profile.field-0.0)) given c.in_err-profile.ensures)

pub returns-clause-options_are : goal.returns-clause-options_are
returns-clause-options_are g c =
    let words : List Text = map g.S.AsStr.text c.args.words.now in
    let old = c.in_ok-command.field-0 in
    let m = c.in_ok-matches.matches in
    let is : app_of old ≡ nfsd = c.in_ok-command.ensures in
    let parsed = c.in_ok-matches.ensures.parsed in
    let rows : rows_of (found_of m) ≡ matches_of nfsd words =
    (c.in_ok-matches.ensures.matches (ap is_simple is)).0 ∙ ap (λ a. matches_of a words) is in
    let bare = c.get_flag-bare.ensures in
    let concurrent = c.get_flag-concurrent.ensures in
    let stamped = c.get_flag-stamped.ensures in
    let ports = c.get_flag-privileged_ports.ensures in
    let leases = c.get_flag-leases.ensures in
    let any = c.get_flag-any_port.ensures in
    let default_count = default_connections c.are_many-many.result in
    record {
      book = c.get_str-2.ensures ∙ text_given old m parsed is words rows (codes "book");
      bare = flag_given old m parsed is words rows 1 _ bare_is_at c.get_flag-bare.result bare.none bare.value bare.other;
      port = subst (IsNumber 2049 1 65535 (given (codes "port") words)) (sym c.unwrap_or.ensures)
          (number_given old m parsed is words rows (λ bs r. ParsesUnsigned 16 10 bs r × ExplainsUnsignedError 10 bs r × HasUnsignedDigitsIfOk bs r)
          16 2049 1 65535 2 _ port_is_at c.get_one.result c.get_one.ensures.none c.get_one.ensures.value (λ t x gives. gives.0) (omega arith));
      connections = subst (λ (many : Bool). IsNumber (default_connections many) 0 4294967295 (given (codes "connections") words) c.unwrap_or-2.result) c.are_many-many.ensures
          (subst (IsNumber default_count 0 4294967295 (given (codes "connections") words)) (sym c.unwrap_or-2.ensures)
          (subst (λ (n : ℕ). IsNumber default_count 0 4294967295 (given (codes "connections") words) (unwrap_or c.get_one-2.result n))
          (sym c.connections_of-default_count.ensures)
          (number_given old m parsed is words rows (λ bs r. ParsesUnsigned 32 10 bs r × ExplainsUnsignedError 10 bs r × HasUnsignedDigitsIfOk bs r)
          32 default_count 0 4294967295 3 _ connections_is_at c.get_one-2.result c.get_one-2.ensures.none c.get_one-2.ensures.value (λ t x gives. gives.0) (omega arith))));
      concurrent = flag_given old m parsed is words rows 4 _ concurrent_is_at c.get_flag-concurrent.result concurrent.none concurrent.value concurrent.other;
      trail = c.get_str-trail.ensures ∙ text_given old m parsed is words rows (codes "trail");
      stamped = flag_given old m parsed is words rows 6 _ stamped_is_at c.get_flag-stamped.result stamped.none stamped.value stamped.other;
      privileged_ports = flag_given old m parsed is words rows 7 _ privileged_is_at c.get_flag-privileged_ports.result ports.none ports.value ports.other;
      store = c.get_str-store.ensures ∙ text_given old m parsed is words rows (codes "store");
      leases = flag_given old m parsed is words rows 9 _ leases_is_at c.get_flag-leases.result leases.none leases.value leases.other;
      home = c.get_str-home.ensures ∙ text_given old m parsed is words rows (codes "home");
      profile = subst (λ name. profile_of name ≡ Some c.in_ok-profile.profile) (c.get_str.ensures ∙ text_given old m parsed is words rows (codes "profile")) c.in_ok-profile.ensures;
      listen = subst (λ (texts : List Text). WriteEach IsIpText texts c.in_ok-listen.listen.items)
          (list_said old m parsed is words rows (codes "listen") c.get_strs.result c.get_strs.ensures) c.in_ok-listen.ensures;
      allow = subst (λ (texts : List Text). WriteEach Writes texts c.in_ok-allow.allow.items)
          (list_said old m parsed is words rows (codes "allow") c.get_strs-2.result c.get_strs-2.ensures) c.in_ok-allow.ensures;
      any_port = flag_given old m parsed is words rows 14 _ any_port_stands c.get_flag-any_port.result any.none any.value any.other;
    }

pub returns-clause-refused : goal.returns-clause-refused
returns-clause-refused g c =
    let words : List Text = map g.S.AsStr.text c.args.words.now in
    let is : app_of c.in_ok-command.field-0 ≡ nfsd = c.in_ok-command.ensures in
    ap (λ a. fault_of a words) (sym is) ∙ c.in_ok-matches.ensures.kinds (ap is_simple_and_free is)
