-- The options by the words that a command was matched with, and the errors of the words.
use Rattle.std.proofs.Common.{◌≡◌, ◌∙◌, ◌<◌, ◌^◌, ap, ℕ, Bool, true, false, List, [], Option, Some, None, sym, subst, inl, inr, codes, unwrap_or, map, Bor}
use Rattle.std.specs.Prelude.{Any, Err, Result, option_map, pos}
use Rattle.std.specs.Str.Parse.{ParsesUnsigned}
use Rattle.clap.specs.Lexer.{without_minus}
use Rattle.clap.specs.Built.{IsParsedFrom}
use Rattle.clap.specs.Kinds.{HasKind}
use Rattle.clap.specs.Matches.{ReadsOne, first_value, found_of, matched_of, one_text, raw_values}
use Rattle.clap.specs.Words.{Rule, Text, all_of, app_of, fault_of, first_of, matches_of, rows_of}
use Rattle.clap.specs.declared.builder.command.Command.{Command}
use Rattle.clap.specs.declared.builder.value_parser.ValueParser.TheVariants as vp
use Rattle.clap.specs.declared.error.Error.{Error}
use Rattle.clap.specs.declared.parser.matches.ArgMatches.{ArgMatches}
use Rattle.clap.proofs.WalkLemmas.{first_value-rows, raw_values-rows}
use Rattle.nfsd_options.specs.Given.{AreReadOr, HasUnreadText, IsNumber, given, is_set, listed}
use Rattle.nfsd_options.specs.Lists.{FailsAtText, texts_of}
use Rattle.nfsd_options.specs.Profiles.{ReadsProfile}
use Rattle.nfsd_options.specs.Simple.{nfsd}
use Rattle.nfsd_options.proofs.Answers.{flag_held, number_held}
use Rattle.nfsd_options.proofs.Numbers.{number_read}
use Rattle.nfsd_options.proofs.Rules.{IsRuleAt}
use Rattle.nfsd_options.proofs.Taken.{nothing_read, value_taken}

module _ (old : Command) (m : ArgMatches) (parsed : IsParsedFrom old m) (is : app_of old ≡ nfsd) (words : List Text)
    (rows : rows_of (found_of m) ≡ matches_of nfsd words) where
  pub text_given : (id : Text) → first_value (found_of m) id ≡ given id words
  text_given id = first_value-rows (found_of m) id ∙ ap (first_of id) rows

  pub flag_given : (k : ℕ) (r : Rule) → IsRuleAt k r vp.Bool → (b : Bool)
      → (one_text (found_of m) r.id ≡ None → b ≡ false) → (one_text (found_of m) r.id ≡ Some (codes "true") → b ≡ true)
      → (one_text (found_of m) r.id ≡ Some (codes "false") → b ≡ false) → b ≡ is_set (given r.id words)
  flag_given k r holds b none set unset =
      flag_held b (given r.id words) (λ e. none (nothing_read (found_of m) r.id (text_given r.id ∙ e)))
      (λ t e.
      let taken = value_taken old m parsed is k r vp.Bool holds t (text_given r.id ∙ e) in
      (taken.0, ((λ h. set (taken.1 ∙ ap Some h)), (λ h. unset (taken.1 ∙ ap Some h)))))

  pub number_given : {E : Type 0} (G : Text → Result ℕ E → Type 0) (bits default low high : ℕ) (k : ℕ) (r : Rule)
      → IsRuleAt k r (vp.Signed (pos low) (pos high)) → (o : Option ℕ) → (one_text (found_of m) r.id ≡ None → o ≡ None)
      → ((t : Text) → one_text (found_of m) r.id ≡ Some t → ReadsOne G t o)
      → ((t : Text) (x : Result ℕ E) → G t x → ParsesUnsigned bits 10 t x) → high < 2 ^ bits
      → IsNumber default low high (given r.id words) (unwrap_or o default)
  number_given G bits default low high k r holds o none reads only fits =
      number_held default low high (given r.id words) o (λ e. none (nothing_read (found_of m) r.id (text_given r.id ∙ e)))
      (λ t e.
      let taken = value_taken old m parsed is k r (vp.Signed (pos low) (pos high)) holds t (text_given r.id ∙ e) in
      (taken.0, number_read _ G bits low high t o (reads (without_minus t) taken.1) only fits taken.0))

  pub list_said : (id : Text) (r : Option (Bor (List (Bor Text))))
      → option_map (λ s. map (λ t. t.now) s.now) r ≡ option_map raw_values (matched_of (found_of m) id) → texts_of r ≡ listed id words
  list_said id r e = ap (λ o. unwrap_or o []) (e ∙ (raw_values-rows (found_of m) id ∙ ap (all_of id) rows))

-- an error of `clap`'s reading
pub fails_first : {T : Type 0} (words : List Text) (r : Result T Error) (e : Error) → r ≡ Err e → HasKind (fault_of nfsd words) e
    → AreReadOr words r
fails_first words r e is has = subst (λ x. AreReadOr words x) (sym is) (inl has)

-- an error of the values of an option
pub fails_then : {T X E : Type 0} (gives : Text → Result X E → Type 0) (words texts : List Text) (r : Result T Error) (e : Error) → r ≡ Err e
    → fault_of nfsd words ≡ [] → FailsAtText gives texts e → (Any (λ t. (why : E) × gives t (Err why)) texts → HasUnreadText words)
    → AreReadOr words r
fails_then gives words texts r e is none (inl memory) unread = subst (λ x. AreReadOr words x) (sym is) (inl (inl memory))
fails_then gives words texts r e is none (inr wrong) unread =
    subst (λ x. AreReadOr words x) (sym is) (inr (none, wrong.0, unread wrong.1))

-- a name that no profile has
pub unnamed : {T : Type 0} (words : List Text) (r : Result T Error) (e : Error) → r ≡ Err e → fault_of nfsd words ≡ []
    → ReadsProfile (given (codes "profile") words) (Err e) → AreReadOr words r
unnamed words r e is none (inl memory) = subst (λ x. AreReadOr words x) (sym is) (inl (inl memory))
unnamed words r e is none (inr wrong) = subst (λ x. AreReadOr words x) (sym is) (inr (none, wrong.0, inr (inr wrong.1)))
