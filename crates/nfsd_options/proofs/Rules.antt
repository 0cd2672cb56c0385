-- The fifteen options by their places, and the rules of each that building keeps.
use Rattle.std.proofs.Common.{◌≡◌, ◌∙◌, ◌<◌, ap, ap₂, ℕ, true, false, List, [], length, zero, suc, Some, refl, sym, inl, inr, arith, codes}
use Rattle.std.specs.List.{slice_index_or}
use Rattle.std.specs.Str.{bytes_eq}
use Rattle.std.proofs.lemmas.List.{get_or-map, length-map}
use Rattle.std.proofs.lemmas.Slice.Eq.{bytes_eq-Decides}
use Rattle.clap.specs.Facts.{args_of, parser_of, parser_of_value}
use Rattle.clap.specs.Built.{IsParsedFrom}
use Rattle.clap.specs.Words.{App, Rule, Text, app_of, rule_of}
use Rattle.clap.specs.declared.builder.arg.Arg.{Arg}
use Rattle.clap.specs.declared.builder.command.Command.{Command}
use Rattle.clap.specs.declared.builder.value_parser.ValueParser.{ValueParser}
use Rattle.clap.specs.declared.builder.value_parser.ValueParser.TheVariants as vp
use Rattle.clap.specs.declared.parser.matches.ArgMatches.{ArgMatches}
use Rattle.clap.proofs.CallerLemmas.{same_rules_by_id}
use Rattle.std.specs.Prelude.{pos}
use Rattle.nfsd_options.specs.Simple.{any_port_rule, bare_rule, concurrent_rule, connections_rule, leases_rule, nfsd, port_rule, privileged_rule, stamped_rule}

abbrev pub nfsd_rules : List Rule
nfsd_rules = nfsd.top.rules

pub differ : (a b : Text) → bytes_eq a b ≡ false → a ≡ b → ⊥
differ a b other same =
    let equal : bytes_eq a b ≡ true = (bytes_eq-Decides a b).1 same in
    let bad : false ≡ true = sym other ∙ equal in
    cc

-- the option at place k has the rule r and the parser q, and an id that no other argument of the command has
pub record IsRuleAt (k : ℕ) (r : Rule) (q : ValueParser) : Type 0 where
  pub here : k < 15
  pub place : (e : Rule) → slice_index_or nfsd_rules k e ≡ r
  pub parser : r.parser ≡ Some q
  pub exact : r.ignore_case ≡ false
  pub alone : (j : ℕ) (e : Rule) → j < 15 → bytes_eq (slice_index_or nfsd_rules j e).id r.id ≡ true → j ≡ k
  pub named : bytes_eq r.id [] ≡ false
  pub no_help : bytes_eq r.id (codes "help") ≡ false
  pub no_version : bytes_eq r.id (codes "version") ≡ false

bare_alone : (j : ℕ) (e : Rule) → j < 15 → bytes_eq (slice_index_or nfsd_rules j e).id (codes "bare") ≡ true → j ≡ 1
bare_alone zero e lt same = cc
bare_alone (suc zero) e lt same = refl
bare_alone (suc (suc zero)) e lt same = cc
bare_alone (suc (suc (suc zero))) e lt same = cc
bare_alone (suc (suc (suc (suc zero)))) e lt same = cc
bare_alone (suc (suc (suc (suc (suc zero))))) e lt same = cc
bare_alone (suc (suc (suc (suc (suc (suc zero)))))) e lt same = cc
bare_alone (suc (suc (suc (suc (suc (suc (suc zero))))))) e lt same = cc
bare_alone (suc (suc (suc (suc (suc (suc (suc (suc zero)))))))) e lt same = cc
bare_alone (suc (suc (suc (suc (suc (suc (suc (suc (suc zero))))))))) e lt same = cc
bare_alone (suc (suc (suc (suc (suc (suc (suc (suc (suc (suc zero)))))))))) e lt same = cc
bare_alone (suc (suc (suc (suc (suc (suc (suc (suc (suc (suc (suc zero))))))))))) e lt same = cc
bare_alone (suc (suc (suc (suc (suc (suc (suc (suc (suc (suc (suc (suc zero)))))))))))) e lt same = cc
bare_alone (suc (suc (suc (suc (suc (suc (suc (suc (suc (suc (suc (suc (suc zero))))))))))))) e lt same = cc
bare_alone (suc (suc (suc (suc (suc (suc (suc (suc (suc (suc (suc (suc (suc (suc zero)))))))))))))) e lt same = cc
bare_alone (suc (suc (suc (suc (suc (suc (suc (suc (suc (suc (suc (suc (suc (suc (suc j))))))))))))))) e lt same = absurd (omega arith)

port_alone : (j : ℕ) (e : Rule) → j < 15 → bytes_eq (slice_index_or nfsd_rules j e).id (codes "port") ≡ true → j ≡ 2
port_alone zero e lt same = cc
port_alone (suc zero) e lt same = cc
port_alone (suc (suc zero)) e lt same = refl
port_alone (suc (suc (suc zero))) e lt same = cc
port_alone (suc (suc (suc (suc zero)))) e lt same = cc
port_alone (suc (suc (suc (suc (suc zero))))) e lt same = cc
port_alone (suc (suc (suc (suc (suc (suc zero)))))) e lt same = cc
port_alone (suc (suc (suc (suc (suc (suc (suc zero))))))) e lt same = cc
port_alone (suc (suc (suc (suc (suc (suc (suc (suc zero)))))))) e lt same = cc
port_alone (suc (suc (suc (suc (suc (suc (suc (suc (suc zero))))))))) e lt same = cc
port_alone (suc (suc (suc (suc (suc (suc (suc (suc (suc (suc zero)))))))))) e lt same = cc
port_alone (suc (suc (suc (suc (suc (suc (suc (suc (suc (suc (suc zero))))))))))) e lt same = cc
port_alone (suc (suc (suc (suc (suc (suc (suc (suc (suc (suc (suc (suc zero)))))))))))) e lt same = cc
port_alone (suc (suc (suc (suc (suc (suc (suc (suc (suc (suc (suc (suc (suc zero))))))))))))) e lt same = cc
port_alone (suc (suc (suc (suc (suc (suc (suc (suc (suc (suc (suc (suc (suc (suc zero)))))))))))))) e lt same = cc
port_alone (suc (suc (suc (suc (suc (suc (suc (suc (suc (suc (suc (suc (suc (suc (suc j))))))))))))))) e lt same = absurd (omega arith)

connections_alone : (j : ℕ) (e : Rule) → j < 15 → bytes_eq (slice_index_or nfsd_rules j e).id (codes "connections") ≡ true → j ≡ 3
connections_alone zero e lt same = cc
connections_alone (suc zero) e lt same = cc
connections_alone (suc (suc zero)) e lt same = cc
connections_alone (suc (suc (suc zero))) e lt same = refl
connections_alone (suc (suc (suc (suc zero)))) e lt same = cc
connections_alone (suc (suc (suc (suc (suc zero))))) e lt same = cc
connections_alone (suc (suc (suc (suc (suc (suc zero)))))) e lt same = cc
connections_alone (suc (suc (suc (suc (suc (suc (suc zero))))))) e lt same = cc
connections_alone (suc (suc (suc (suc (suc (suc (suc (suc zero)))))))) e lt same = cc
connections_alone (suc (suc (suc (suc (suc (suc (suc (suc (suc zero))))))))) e lt same = cc
connections_alone (suc (suc (suc (suc (suc (suc (suc (suc (suc (suc zero)))))))))) e lt same = cc
connections_alone (suc (suc (suc (suc (suc (suc (suc (suc (suc (suc (suc zero))))))))))) e lt same = cc
connections_alone (suc (suc (suc (suc (suc (suc (suc (suc (suc (suc (suc (suc zero)))))))))))) e lt same = cc
connections_alone (suc (suc (suc (suc (suc (suc (suc (suc (suc (suc (suc (suc (suc zero))))))))))))) e lt same = cc
connections_alone (suc (suc (suc (suc (suc (suc (suc (suc (suc (suc (suc (suc (suc (suc zero)))))))))))))) e lt same = cc
connections_alone (suc (suc (suc (suc (suc (suc (suc (suc (suc (suc (suc (suc (suc (suc (suc j))))))))))))))) e lt same = absurd (omega arith)

concurrent_alone : (j : ℕ) (e : Rule) → j < 15 → bytes_eq (slice_index_or nfsd_rules j e).id (codes "concurrent") ≡ true → j ≡ 4
concurrent_alone zero e lt same = cc
concurrent_alone (suc zero) e lt same = cc
concurrent_alone (suc (suc zero)) e lt same = cc
concurrent_alone (suc (suc (suc zero))) e lt same = cc
concurrent_alone (suc (suc (suc (suc zero)))) e lt same = refl
concurrent_alone (suc (suc (suc (suc (suc zero))))) e lt same = cc
concurrent_alone (suc (suc (suc (suc (suc (suc zero)))))) e lt same = cc
concurrent_alone (suc (suc (suc (suc (suc (suc (suc zero))))))) e lt same = cc
concurrent_alone (suc (suc (suc (suc (suc (suc (suc (suc zero)))))))) e lt same = cc
concurrent_alone (suc (suc (suc (suc (suc (suc (suc (suc (suc zero))))))))) e lt same = cc
concurrent_alone (suc (suc (suc (suc (suc (suc (suc (suc (suc (suc zero)))))))))) e lt same = cc
concurrent_alone (suc (suc (suc (suc (suc (suc (suc (suc (suc (suc (suc zero))))))))))) e lt same = cc
concurrent_alone (suc (suc (suc (suc (suc (suc (suc (suc (suc (suc (suc (suc zero)))))))))))) e lt same = cc
concurrent_alone (suc (suc (suc (suc (suc (suc (suc (suc (suc (suc (suc (suc (suc zero))))))))))))) e lt same = cc
concurrent_alone (suc (suc (suc (suc (suc (suc (suc (suc (suc (suc (suc (suc (suc (suc zero)))))))))))))) e lt same = cc
concurrent_alone (suc (suc (suc (suc (suc (suc (suc (suc (suc (suc (suc (suc (suc (suc (suc j))))))))))))))) e lt same = absurd (omega arith)

stamped_alone : (j : ℕ) (e : Rule) → j < 15 → bytes_eq (slice_index_or nfsd_rules j e).id (codes "stamped") ≡ true → j ≡ 6
stamped_alone zero e lt same = cc
stamped_alone (suc zero) e lt same = cc
stamped_alone (suc (suc zero)) e lt same = cc
stamped_alone (suc (suc (suc zero))) e lt same = cc
stamped_alone (suc (suc (suc (suc zero)))) e lt same = cc
stamped_alone (suc (suc (suc (suc (suc zero))))) e lt same = cc
stamped_alone (suc (suc (suc (suc (suc (suc zero)))))) e lt same = refl
stamped_alone (suc (suc (suc (suc (suc (suc (suc zero))))))) e lt same = cc
stamped_alone (suc (suc (suc (suc (suc (suc (suc (suc zero)))))))) e lt same = cc
stamped_alone (suc (suc (suc (suc (suc (suc (suc (suc (suc zero))))))))) e lt same = cc
stamped_alone (suc (suc (suc (suc (suc (suc (suc (suc (suc (suc zero)))))))))) e lt same = cc
stamped_alone (suc (suc (suc (suc (suc (suc (suc (suc (suc (suc (suc zero))))))))))) e lt same = cc
stamped_alone (suc (suc (suc (suc (suc (suc (suc (suc (suc (suc (suc (suc zero)))))))))))) e lt same = cc
stamped_alone (suc (suc (suc (suc (suc (suc (suc (suc (suc (suc (suc (suc (suc zero))))))))))))) e lt same = cc
stamped_alone (suc (suc (suc (suc (suc (suc (suc (suc (suc (suc (suc (suc (suc (suc zero)))))))))))))) e lt same = cc
stamped_alone (suc (suc (suc (suc (suc (suc (suc (suc (suc (suc (suc (suc (suc (suc (suc j))))))))))))))) e lt same = absurd (omega arith)

privileged_alone : (j : ℕ) (e : Rule) → j < 15 → bytes_eq (slice_index_or nfsd_rules j e).id (codes "privileged-ports") ≡ true → j ≡ 7
privileged_alone zero e lt same = cc
privileged_alone (suc zero) e lt same = cc
privileged_alone (suc (suc zero)) e lt same = cc
privileged_alone (suc (suc (suc zero))) e lt same = cc
privileged_alone (suc (suc (suc (suc zero)))) e lt same = cc
privileged_alone (suc (suc (suc (suc (suc zero))))) e lt same = cc
privileged_alone (suc (suc (suc (suc (suc (suc zero)))))) e lt same = cc
privileged_alone (suc (suc (suc (suc (suc (suc (suc zero))))))) e lt same = refl
privileged_alone (suc (suc (suc (suc (suc (suc (suc (suc zero)))))))) e lt same = cc
privileged_alone (suc (suc (suc (suc (suc (suc (suc (suc (suc zero))))))))) e lt same = cc
privileged_alone (suc (suc (suc (suc (suc (suc (suc (suc (suc (suc zero)))))))))) e lt same = cc
privileged_alone (suc (suc (suc (suc (suc (suc (suc (suc (suc (suc (suc zero))))))))))) e lt same = cc
privileged_alone (suc (suc (suc (suc (suc (suc (suc (suc (suc (suc (suc (suc zero)))))))))))) e lt same = cc
privileged_alone (suc (suc (suc (suc (suc (suc (suc (suc (suc (suc (suc (suc (suc zero))))))))))))) e lt same = cc
privileged_alone (suc (suc (suc (suc (suc (suc (suc (suc (suc (suc (suc (suc (suc (suc zero)))))))))))))) e lt same = cc
privileged_alone (suc (suc (suc (suc (suc (suc (suc (suc (suc (suc (suc (suc (suc (suc (suc j))))))))))))))) e lt same = absurd (omega arith)

leases_alone : (j : ℕ) (e : Rule) → j < 15 → bytes_eq (slice_index_or nfsd_rules j e).id (codes "leases") ≡ true → j ≡ 9
leases_alone zero e lt same = cc
leases_alone (suc zero) e lt same = cc
leases_alone (suc (suc zero)) e lt same = cc
leases_alone (suc (suc (suc zero))) e lt same = cc
leases_alone (suc (suc (suc (suc zero)))) e lt same = cc
leases_alone (suc (suc (suc (suc (suc zero))))) e lt same = cc
leases_alone (suc (suc (suc (suc (suc (suc zero)))))) e lt same = cc
leases_alone (suc (suc (suc (suc (suc (suc (suc zero))))))) e lt same = cc
leases_alone (suc (suc (suc (suc (suc (suc (suc (suc zero)))))))) e lt same = cc
leases_alone (suc (suc (suc (suc (suc (suc (suc (suc (suc zero))))))))) e lt same = refl
leases_alone (suc (suc (suc (suc (suc (suc (suc (suc (suc (suc zero)))))))))) e lt same = cc
leases_alone (suc (suc (suc (suc (suc (suc (suc (suc (suc (suc (suc zero))))))))))) e lt same = cc
leases_alone (suc (suc (suc (suc (suc (suc (suc (suc (suc (suc (suc (suc zero)))))))))))) e lt same = cc
leases_alone (suc (suc (suc (suc (suc (suc (suc (suc (suc (suc (suc (suc (suc zero))))))))))))) e lt same = cc
leases_alone (suc (suc (suc (suc (suc (suc (suc (suc (suc (suc (suc (suc (suc (suc zero)))))))))))))) e lt same = cc
leases_alone (suc (suc (suc (suc (suc (suc (suc (suc (suc (suc (suc (suc (suc (suc (suc j))))))))))))))) e lt same = absurd (omega arith)

any_port_alone : (j : ℕ) (e : Rule) → j < 15 → bytes_eq (slice_index_or nfsd_rules j e).id (codes "any-port") ≡ true → j ≡ 14
any_port_alone zero e lt same = cc
any_port_alone (suc zero) e lt same = cc
any_port_alone (suc (suc zero)) e lt same = cc
any_port_alone (suc (suc (suc zero))) e lt same = cc
any_port_alone (suc (suc (suc (suc zero)))) e lt same = cc
any_port_alone (suc (suc (suc (suc (suc zero))))) e lt same = cc
any_port_alone (suc (suc (suc (suc (suc (suc zero)))))) e lt same = cc
any_port_alone (suc (suc (suc (suc (suc (suc (suc zero))))))) e lt same = cc
any_port_alone (suc (suc (suc (suc (suc (suc (suc (suc zero)))))))) e lt same = cc
any_port_alone (suc (suc (suc (suc (suc (suc (suc (suc (suc zero))))))))) e lt same = cc
any_port_alone (suc (suc (suc (suc (suc (suc (suc (suc (suc (suc zero)))))))))) e lt same = cc
any_port_alone (suc (suc (suc (suc (suc (suc (suc (suc (suc (suc (suc zero))))))))))) e lt same = cc
any_port_alone (suc (suc (suc (suc (suc (suc (suc (suc (suc (suc (suc (suc zero)))))))))))) e lt same = cc
any_port_alone (suc (suc (suc (suc (suc (suc (suc (suc (suc (suc (suc (suc (suc zero))))))))))))) e lt same = cc
any_port_alone (suc (suc (suc (suc (suc (suc (suc (suc (suc (suc (suc (suc (suc (suc zero)))))))))))))) e lt same = refl
any_port_alone (suc (suc (suc (suc (suc (suc (suc (suc (suc (suc (suc (suc (suc (suc (suc j))))))))))))))) e lt same = absurd (omega arith)

pub bare_is_at : IsRuleAt 1 bare_rule vp.Bool
bare_is_at = record {
  here = omega arith;
  place = λ e. refl;
  parser = refl;
  exact = refl;
  alone = bare_alone;
  named = refl;
  no_help = refl;
  no_version = refl;
}

pub port_is_at : IsRuleAt 2 port_rule (vp.Signed (pos 1) (pos 65535))
port_is_at = record {
  here = omega arith;
  place = λ e. refl;
  parser = refl;
  exact = refl;
  alone = port_alone;
  named = refl;
  no_help = refl;
  no_version = refl;
}

pub connections_is_at : IsRuleAt 3 connections_rule (vp.Signed (pos 0) (pos 4294967295))
connections_is_at = record {
  here = omega arith;
  place = λ e. refl;
  parser = refl;
  exact = refl;
  alone = connections_alone;
  named = refl;
  no_help = refl;
  no_version = refl;
}

pub concurrent_is_at : IsRuleAt 4 concurrent_rule vp.Bool
concurrent_is_at = record {
  here = omega arith;
  place = λ e. refl;
  parser = refl;
  exact = refl;
  alone = concurrent_alone;
  named = refl;
  no_help = refl;
  no_version = refl;
}

pub stamped_is_at : IsRuleAt 6 stamped_rule vp.Bool
stamped_is_at = record {
  here = omega arith;
  place = λ e. refl;
  parser = refl;
  exact = refl;
  alone = stamped_alone;
  named = refl;
  no_help = refl;
  no_version = refl;
}

pub privileged_is_at : IsRuleAt 7 privileged_rule vp.Bool
privileged_is_at = record {
  here = omega arith;
  place = λ e. refl;
  parser = refl;
  exact = refl;
  alone = privileged_alone;
  named = refl;
  no_help = refl;
  no_version = refl;
}

pub leases_is_at : IsRuleAt 9 leases_rule vp.Bool
leases_is_at = record {
  here = omega arith;
  place = λ e. refl;
  parser = refl;
  exact = refl;
  alone = leases_alone;
  named = refl;
  no_help = refl;
  no_version = refl;
}

pub any_port_stands : IsRuleAt 14 any_port_rule vp.Bool
any_port_stands = record {
  here = omega arith;
  place = λ e. refl;
  parser = refl;
  exact = refl;
  alone = any_port_alone;
  named = refl;
  no_help = refl;
  no_version = refl;
}

fifteen : (c : Command) → app_of c ≡ nfsd → length (args_of c) ≡ 15
fifteen c is = sym (length-map (args_of c) rule_of) ∙ ap (λ (a : App). length a.top.rules) is

rule_at : (c : Command) → app_of c ≡ nfsd → (k : ℕ) (d : Arg) (e : Rule) → k < length (args_of c)
    → rule_of (slice_index_or (args_of c) k d) ≡ slice_index_or nfsd_rules k e
rule_at c is k d e lt = sym (get_or-map rule_of (args_of c) k d e lt) ∙ ap (λ (a : App). slice_index_or a.top.rules k e) is

-- an argument of the built command with the id of an option has that option's parser
pub own_parser : (old : Command) (m : ArgMatches) (p : IsParsedFrom old m) → app_of old ≡ nfsd → (k : ℕ) (r : Rule) (q : ValueParser) → IsRuleAt k r q
    → (j : ℕ) (x : Arg) → j < length (args_of p.built) → slice_index_or (args_of p.built) j x ≡ x → bytes_eq x.id.now r.id ≡ true
    → (parser_of x ≡ q) × (x.ignore_case ≡ false)
own_parser old m p is k r q s j x lt at same =
    let count = fifteen old is in
    let few = s.here in
    let here : k < length (args_of old) = omega arith in
    let mine : rule_of (slice_index_or (args_of old) k x) ≡ r = rule_at old is k x r here ∙ s.place r in
    let id : (slice_index_or (args_of old) k x).id.now ≡ r.id = ap (λ (a : Rule). a.id) mine in
    let alone : (i : ℕ) (e : Arg) → i < length (args_of old)
    → bytes_eq (slice_index_or (args_of old) i e).id.now (slice_index_or (args_of old) k x).id.now ≡ true → i ≡ k =
    λ i e low eq.
    let other : (slice_index_or (args_of old) i e).id.now ≡ (slice_index_or nfsd_rules i r).id = ap (λ (a : Rule). a.id) (rule_at old is i e r low) in
    s.alone i r (omega arith) (sym (ap₂ bytes_eq other id) ∙ eq) in
    let kept = same_rules_by_id old m p k x here alone
    (λ auto. elim auto [
      | inl h ↦ differ r.id (codes "help") s.no_help (sym id ∙ h)
      | inr h ↦ differ r.id (codes "version") s.no_version (sym id ∙ h)
    ])
    j x lt at (ap (bytes_eq x.id.now) id ∙ same) in (
      ap parser_of_value (kept.parser q (ap (λ (a : Rule). a.parser) mine ∙ s.parser)),
      kept.ignore_case ∙ (ap (λ (a : Rule). a.ignore_case) mine ∙ s.exact),
    )
