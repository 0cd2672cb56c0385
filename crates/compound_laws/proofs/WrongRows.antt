-- Questions that aren't those of an operation's line, by the number of their rows or by the place of one.
use Rattle.std.proofs.Common.{◌≡◌, ℕ, Bool, true, false, List, ap}
use Rattle.std.specs.Prelude.{[], ◌∷◌, length, map}
use Rattle.nfs_ops.specs.Operations.{Known}
use Rattle.nfs_ops.specs.declared.OpKind.TheVariants as kinds
use Rattle.access_rows.specs.Rows.{Demands}
use Rattle.compound_run.specs.Context.{Context, Handles}
use Rattle.compound_run.specs.Sight.{Sight}
use Rattle.compound_laws.specs.Lines.{Step, Tests, Checks, Asks, Ends, line_of, steps_of}
use Rattle.compound_laws.specs.RowsAsked.{rows_of, table_rows}
use Rattle.compound_laws.specs.WrongRows.{reading_lookup, asking_getfh, disclosing_remove}

two_isnt_one : ◌≡◌ {A = ℕ} 2 1 → ⊥
two_isnt_one same = cc

one_isnt_none : ◌≡◌ {A = ℕ} 1 0 → ⊥
one_isnt_none same = cc

pub of_lookup : (c : Context) (h : Handles) (name : List ℕ)
    → rows_of (reading_lookup name c h) ≡ table_rows c h (Known kinds.Lookup name) → ⊥
of_lookup c h name same = two_isnt_one (ap length same)

pub of_getfh : (c : Context) (h : Handles)
    → rows_of (asking_getfh c h) ≡ table_rows c h (Known kinds.GetFh tt) → ⊥
of_getfh c h same = one_isnt_none (ap length same)

-- whether a step is a row
abbrev is_row : Step → Bool
is_row (Asks demands) = true
is_row (Tests status) = false
is_row (Checks fault) = false
is_row Ends = false

-- whether the eighth step is one
abbrev asks_eighth : List Step → Bool
asks_eighth (a ∷ b ∷ c ∷ d ∷ e ∷ f ∷ g ∷ step ∷ steps) = is_row step
asks_eighth steps = false

false_isnt_true : false ≡ true → ⊥
false_isnt_true same = cc

pub of_remove : (c : Context) (h : Handles) (name : List ℕ)
    → steps_of (disclosing_remove name c h) ≡ line_of c h (Known kinds.Remove name) → ⊥
of_remove c h name same = false_isnt_true (ap asks_eighth same)
