-- Two profiles with one number have the same limits.
use Rattle.std.proofs.Common.{◌≡◌, ◌∙◌, sym, ap}
use Rattle.std.specs.Prelude.{Option, unwrap_or}
use Rattle.nfs_types.specs.Limits.{Limits, IsAllowed, limits_of}

pub same_number : (l m : Limits) → IsAllowed l → IsAllowed m → l.profile ≡ m.profile → l ≡ m
same_number l m a b is = ap (λ (o : Option Limits). unwrap_or o l) (sym a.known ∙ (ap limits_of is ∙ b.known))
