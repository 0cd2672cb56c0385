-- A simple and free argument: it excludes no other, belongs to no group, and its values aren't split.
use Rattle.std.proofs.Common.{◌≡◌, true, not, Option, Some, None, is_some, refl}
use Rattle.clap.specs.Built.{IsPlainArg}
use Rattle.clap.specs.Walk.{is_empty, is_free_arg, is_simple_arg}
use Rattle.clap.specs.declared.builder.arg.Arg.{Arg}
use Rattle.clap.proofs.SimpleLemmas.{is_false, is_nil}
use Rattle.clap.proofs.WalkLemmas.{both}

none_of : {X : Type 0} (o : Option X) → not (is_some o) ≡ true → o ≡ None
none_of None e = refl
none_of (Some x) e = cc

pub no_delimiter : (a : Arg) → is_simple_arg a ≡ true → a.val_delim ≡ None
no_delimiter a simple =
    let overrides = both (is_empty a.overrides.items) _ simple in
    let default_ifs = both (is_empty a.default_vals_ifs.items) _ overrides.1 in
    let groups = both (is_empty a.groups.items) _ default_ifs.1 in
    let delimiter = both (not (is_some a.val_delim)) _ groups.1 in
    none_of _ delimiter.0

pub plain_arg : (a : Arg) → is_simple_arg a ≡ true → is_free_arg a ≡ true → IsPlainArg a
plain_arg a simple free =
    let overrides = both (is_empty a.overrides.items) _ simple in
    let default_ifs = both (is_empty a.default_vals_ifs.items) _ overrides.1 in
    let groups = both (is_empty a.groups.items) _ default_ifs.1 in
    let exclusive = both (not a.exclusive) _ free in
    let conflicts = both (is_empty a.conflicts.items) _ exclusive.1 in
    (is_false _ exclusive.0, is_nil _ conflicts.0, is_nil _ overrides.0, is_nil _ groups.0)
