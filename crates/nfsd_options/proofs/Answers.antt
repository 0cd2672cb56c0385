-- From the values of the matches' getters to the options, and from the kinds of errors to those of the words.
use Rattle.std.proofs.Common.{◌≡◌, ◌||◌, ◌∙◌, ap, ℕ, Bool, true, false, Option, Some, None, refl, sym, codes}
use Rattle.std.specs.Prelude.{pos, unwrap_or}
use Rattle.std.specs.Str.{bytes_eq}
use Rattle.std.specs.Str.Parse.{signed_digits_value}
use Rattle.std.proofs.lemmas.Slice.Eq.{bytes_eq-Decides}
use Rattle.clap.specs.Values.{Accepts, IsSignedIn}
use Rattle.clap.specs.Words.{Text}
use Rattle.clap.specs.declared.builder.value_parser.ValueParser.TheVariants as vp
use Rattle.nfsd_options.specs.Given.{IsNumber, is_set}

-- the flag is as its text sets it, or isn't given
pub flag_held : (b : Bool) (o : Option Text) → (o ≡ None → b ≡ false)
    → ((t : Text) → o ≡ Some t → Accepts false vp.Bool t × ((t ≡ codes "true" → b ≡ true) × (t ≡ codes "false" → b ≡ false)))
    → b ≡ is_set o
flag_held b None none some = none refl
flag_held b (Some t) none some = go (bytes_eq t (codes "true")) refl
  where
    go : (w : Bool) → bytes_eq t (codes "true") ≡ w → b ≡ bytes_eq t (codes "true")
    go true e = (some t refl).1.0 ((bytes_eq-Decides t (codes "true")).0 e) ∙ sym e
    go false e =
        let other : bytes_eq t (codes "false") ≡ true = sym (ap (λ (w : Bool). w || bytes_eq t (codes "false")) e) ∙ (some t refl).0 in
        (some t refl).1.1 ((bytes_eq-Decides t (codes "false")).0 other) ∙ sym e

-- the number is the number that the text spells, or the default where no text is given
pub number_held : (default low high : ℕ) (o : Option Text) (r : Option ℕ) → (o ≡ None → r ≡ None)
    → ((t : Text) → o ≡ Some t → IsSignedIn (pos low) (pos high) t × ((n : ℕ) × (r ≡ Some n) × (signed_digits_value 10 t ≡ pos n)))
    → IsNumber default low high o (unwrap_or r default)
number_held default low high None r none some = ap (λ (x : Option ℕ). unwrap_or x default) (none refl)
number_held default low high (Some t) r none some =
    let got = some t refl in
    (got.0, got.1.2 ∙ ap pos (sym (ap (λ (x : Option ℕ). unwrap_or x default) got.1.1)))
