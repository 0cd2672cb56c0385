-- The sample tree is sound: it is a root after two additions, except for the root's last change.
use Rattle.std.proofs.Common.{◌≡◌, ℕ, ◌<◌, List, [], None, refl, sym, subst, lit<, lit≤}
use Rattle.std.specs.Prelude.{codes}
use Rattle.acl_list.specs.declared.entry.Entry.{Entry}
use Rattle.acl_list.specs.declared.entry.Kind.{Kind}
use Rattle.acl_list.specs.declared.entry.Kind.TheVariants.{File, Directory}
use Rattle.acl_shape.specs.Bounds.{IsBounded}
use Rattle.acl_shape.specs.Mode.{set_mode}
use Rattle.nfs_types.specs.Limits.{IsAllowed, standard}
use Rattle.node_tree.specs.World.{World, Object, kind_of}
use Rattle.node_tree.specs.Changes.{changed, alone, root_of, epoch, with_new}
use Rattle.node_tree.specs.Sample.{sample}
use Rattle.node_tree.specs.Sound.{stamp_of, IsRooted, IsStamped, IsSound}
use Rattle.node_tree.proofs.Objects.{option_map-changed}
use Rattle.node_tree.proofs.Holding.{IsHeld-changed}
use Rattle.node_tree.proofs.Setting.{held_in}
use Rattle.node_tree.proofs.Adding.{IsSound-with_new}
use Rattle.node_tree.proofs.Starting.{IsSound-alone}
use mathlib.Core.Path.{fun_ext}

-- a world with another last change of an object
abbrev with_change : World → ℕ → ℕ → World
with_change w number tick = record w { objects = changed number (λ o. record o { change = tick }) w.objects }

IsSound-with_change : (w : World) (number tick : ℕ) → IsSound w → tick < w.next_tick → IsSound (with_change w number tick)
IsSound-with_change w number tick sound due =
    let f = λ (o : Object). record o { change = tick } in
    let kinds : kind_of (with_change w number tick) ≡ kind_of w = fun_ext (option_map-changed (λ o. o.kind) number f w.objects (λ o. refl)) in
    let stamps : stamp_of (with_change w number tick) ≡ stamp_of w = fun_ext (option_map-changed (λ o. o.stamp) number f w.objects (λ o. refl)) in
    let held = IsHeld-changed number f w.objects w.next_number w.next_tick (λ o is fit. record { list = fit.list; bytes = fit.bytes; change = due }) (held_in w sound) in
    record {
      rooted = subst (λ k. IsRooted k w.names) (sym kinds) sound.rooted;
      stamped = subst (λ s. IsStamped s w.next_stamp) (sym stamps) sound.stamped;
      numbered = held.numbered;
      listed = sound.listed;
      few = held.few;
      fit = held.fit;
      limited = sound.limited;
      counted = record { numbers = sound.counted.numbers; ticks = sound.counted.ticks; stamps = sound.counted.stamps; cookies = sound.counted.cookies };
      allowed = sound.allowed;
    }

pub allowed : IsAllowed standard
allowed = record { known = refl; connections = lit≤ tt; clients = lit≤ tt; sessions = lit≤ tt; opens = lit≤ tt; root = lit≤ tt; objects = lit< tt; names = lit< tt; links = lit< tt; few_links = lit< tt; bytes = lit< tt }

-- the sample with any access control lists, so that none is computed
module _ (of_root of_notes of_pub : List Entry) (root_bounded : IsBounded of_root) (notes_bounded : IsBounded of_notes) (pub_bounded : IsBounded of_pub) where
  abbrev thing : ℕ → Kind → List ℕ → ℕ → ℕ → List Entry → Object
  thing number kind bytes owner group list = record { kind = kind; bytes = bytes; owner = owner; group = group; list = list; high = 0; change = number; time_access = None; time_modify = epoch; time_metadata = epoch; stamp = number }

  abbrev first : World
  first = with_new (alone standard (root_of standard 0 0 of_root 0)) 1 (codes "notes") (thing 2 File (codes "hi") 1001 100 of_notes) (record { tick = 2; moment = epoch })

  abbrev second : World
  second = with_new first 1 (codes "pub") (thing 3 Directory [] 0 0 of_pub) (record { tick = 3; moment = epoch })

  is_sound : IsSound (with_change second 1 1)
  is_sound =
      let root = IsSound-alone standard allowed (root_of standard 0 0 of_root 0) refl refl root_bounded refl refl in
      let one = IsSound-with_new (alone standard (root_of standard 0 0 of_root 0)) root 1 (codes "notes") (thing 2 File (codes "hi") 1001 100 of_notes) (record { tick = 2; moment = epoch }) (record { due = lit≤ tt; fresh = lit≤ tt; left = lit< tt }) refl refl (lit≤ tt)
      (record { list = notes_bounded; bytes = lit≤ tt; change = lit< tt }) refl (lit< tt) (lit< tt) (lit< tt) (lit< tt) (lit< tt) in
      let two = IsSound-with_new first one 1 (codes "pub") (thing 3 Directory [] 0 0 of_pub) (record { tick = 3; moment = epoch }) (record { due = lit≤ tt; fresh = lit≤ tt; left = lit< tt }) refl refl (lit≤ tt)
      (record { list = pub_bounded; bytes = lit≤ tt; change = lit< tt }) refl (lit< tt) (lit< tt) (lit< tt) (lit< tt) (lit< tt) in
      IsSound-with_change second 1 1 two (lit< tt)

pub IsSound-sample : ((entries : List Entry) (kind : Kind) (mode : ℕ) → IsBounded entries → IsBounded (set_mode entries kind mode)) → IsSound sample
IsSound-sample bounds =
    let empty : IsBounded [] = record { all = lit≤ tt; kept = lit≤ tt } in
    is_sound (set_mode [] Directory 0x1ed) (set_mode [] File 0x1a0) (set_mode [] Directory 0x1ff) (bounds [] Directory 0x1ed empty) (bounds [] File 0x1a0 empty) (bounds [] Directory 0x1ff empty)
