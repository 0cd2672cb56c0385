-- The text of a symbolic link is short.
use Rattle.std.proofs.Common.{◌≡◌, ℕ, ◌≤◌, length, subst, arith}
use Rattle.std.specs.Prelude.{Some}
use Rattle.std.proofs.lemmas.List.{take_all}
use Rattle.acl_list.specs.declared.entry.Kind.TheVariants.{Link}
use Rattle.node_tree.specs.World.{World, Object, object, bytes_of, bytes_at}
use Rattle.node_tree.specs.Sound.{IsSound, most_bytes}

pub text_is_short : (w : World) (link : ℕ) (o : Object) → IsSound w → object w link ≡ Some o → o.kind ≡ Link → length o.bytes ≤ 1024
text_is_short w link o sound is kind = subst (λ k. length o.bytes ≤ most_bytes w.limits k) kind (sound.fit link o is).bytes

pub text_is_all : (w : World) (link n : ℕ) → length (bytes_of w link) ≡ n → bytes_at w link 0 n ≡ bytes_of w link
text_is_all w link n all = take_all n (bytes_of w link) (omega (arith, all))
