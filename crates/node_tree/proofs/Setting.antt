-- A sound world stays sound when the bytes, the access control list (ACL), the owner or the times of an object are set.
use Rattle.std.proofs.Common.{◌≡◌, ℕ, ◌+◌, ◌<◌, ◌≤◌, ◌^◌, List, [], length, max, refl, ap, sym, ◌∙◌, subst, arith, Some, None, inl, inr}
use Rattle.std.specs.Prelude.{Option, unwrap_or}
use Rattle.std.specs.Option.{option_or, option_map, option_map_or}
use Rattle.std.proofs.Math.Logic.{⊎_elim}
use Rattle.std.proofs.lemmas.Grind.{common_steps}
use Rattle.std.proofs.lemmas.List.FromFn.{length-range_with_len}
use Rattle.acl_list.specs.declared.entry.Entry.{Entry}
use Rattle.acl_list.specs.declared.entry.Kind.TheVariants.{File}
use Rattle.acl_shape.specs.Bounds.{IsBounded}
use Rattle.nfs_types.specs.declared.moment.Moment.{Moment}
use Rattle.node_tree.specs.declared.at.At.{At}
use Rattle.node_tree.specs.World.{World, Object, object, kind_of, bytes_of}
use Rattle.node_tree.specs.Changes.{changed, touched, retold, written, resized, with_bytes, with_size, with_list, with_owner, with_times}
use Rattle.node_tree.specs.Judged.{Judged, judged, KeepsJudged}
use Rattle.node_tree.specs.Sound.{stamp_of, IsRooted, IsStamped, IsFit, IsSound, IsTick, most_bytes}
use Rattle.node_tree.proofs.Objects.{option_map-changed, Changed, Kept, changed_cases, read_off}
use Rattle.node_tree.proofs.Holding.{IsHeld, IsHeld-later, IsHeld-changed}
use Rattle.node_tree.proofs.Stamps.{IsStamped-restamped}
use mathlib.Core.Path.{fun_ext}

pub held_in : (w : World) → IsSound w → IsHeld w.limits w.objects w.next_number w.next_tick
held_in w sound = record { numbered = sound.numbered; few = sound.few; fit = sound.fit }

-- ---- bytes

-- the bytes of a file are set
abbrev with_new_bytes : World → ℕ → (List ℕ → List ℕ) → At → World
with_new_bytes w file bytes at = record w { objects = changed file (λ o. touched at (record o { bytes = bytes o.bytes })) w.objects; next_tick = at.tick + 1 }

IsSound-with_new_bytes : (w : World) (file : ℕ) (bytes : List ℕ → List ℕ) (at : At) → IsSound w → IsTick w at.tick → kind_of w file ≡ Some File → ((old : List ℕ) → length old ≤ w.limits.bytes → length (bytes old) ≤ w.limits.bytes)
    → IsSound (with_new_bytes w file bytes at)
IsSound-with_new_bytes w file bytes at sound tick is_file fits =
    let f = λ (o : Object). touched at (record o { bytes = bytes o.bytes }) in
    let kinds : kind_of (with_new_bytes w file bytes at) ≡ kind_of w = fun_ext (option_map-changed (λ o. o.kind) file f w.objects (λ o. refl)) in
    let stamps : stamp_of (with_new_bytes w file bytes at) ≡ stamp_of w = fun_ext (option_map-changed (λ o. o.stamp) file f w.objects (λ o. refl)) in
    let held = IsHeld-changed file f w.objects w.next_number (at.tick + 1)
    (λ o is fit. record {
      list = fit.list;
      bytes = let kind : o.kind ≡ File = is_kind o (sym (ap (option_map (λ (o : Object). o.kind)) is) ∙ is_file) in
          subst (λ k. length (bytes o.bytes) ≤ most_bytes w.limits k) (sym kind) (fits o.bytes (subst (λ k. length o.bytes ≤ most_bytes w.limits k) kind fit.bytes));
      change = let goal : at.tick < at.tick + 1 = omega arith in goal;
    })
    (IsHeld-later w.objects w.next_number w.next_tick (at.tick + 1) tick.fresh (held_in w sound)) in
    record {
      rooted = subst (λ k. IsRooted k w.names) (sym kinds) sound.rooted;
      stamped = subst (λ s. IsStamped s w.next_stamp) (sym stamps) sound.stamped;
      numbered = held.numbered;
      listed = sound.listed;
      few = held.few;
      fit = held.fit;
      limited = sound.limited;
      counted = record { numbers = sound.counted.numbers; ticks = (let goal : at.tick + 1 ≤ 2 ^ 63 = omega (arith, tick.left) in goal); stamps = sound.counted.stamps; cookies = sound.counted.cookies };
      allowed = sound.allowed;
    }
  where
    is_kind : (o : Object) → Some o.kind ≡ Some File → o.kind ≡ File
    is_kind o is = cc

KeepsJudged-with_new_bytes : (w : World) (file : ℕ) (bytes : List ℕ → List ℕ) (at : At) → KeepsJudged w (with_new_bytes w file bytes at)
KeepsJudged-with_new_bytes w file bytes at = record {
  stamps_rise = omega arith;
  same = λ k j is _. sym (option_map-changed judged file (λ o. touched at (record o { bytes = bytes o.bytes })) w.objects (λ o. refl) k) ∙ is;
}

pub length-written : (bytes : List ℕ) (offset : ℕ) (more : List ℕ) → length (written bytes offset more) ≡ max (length bytes) (offset + length more)
length-written bytes offset more = grind (arith, common_steps, length-range_with_len)

pub IsSound-with_bytes : (w : World) (file offset : ℕ) (more : List ℕ) (at : At) → IsSound w → IsTick w at.tick → kind_of w file ≡ Some File → offset + length more ≤ w.limits.bytes → IsSound (with_bytes w file offset more at)
IsSound-with_bytes w file offset more at sound tick is_file short = IsSound-with_new_bytes w file (λ old. written old offset more) at sound tick is_file
    (λ old fits. rw (length-written old offset more) (omega (arith, fits, short)))

pub KeepsJudged-with_bytes : (w : World) (file offset : ℕ) (more : List ℕ) (at : At) → KeepsJudged w (with_bytes w file offset more at)
KeepsJudged-with_bytes w file offset more at = KeepsJudged-with_new_bytes w file (λ old. written old offset more) at

-- a file is never too long
pub short_file : (w : World) → IsSound w → (file : ℕ) → kind_of w file ≡ Some File → length (bytes_of w file) ≤ w.limits.bytes
short_file w sound file is_file = there (object w file) refl is_file
  where
    there : (o : Option Object) → object w file ≡ o → option_map (λ (o : Object). o.kind) o ≡ Some File → length (option_map_or (λ (o : Object). o.bytes) o []) ≤ w.limits.bytes
    there None at is = cc
    there (Some o) at is = let kind : o.kind ≡ File = cc in subst (λ k. length o.bytes ≤ most_bytes w.limits k) kind (sound.fit file o at).bytes

length-resized : (bytes : List ℕ) (size : ℕ) → length (resized bytes size) ≡ size
length-resized bytes size = grind (arith, common_steps)

pub IsSound-with_size : (w : World) (file size : ℕ) (at : At) → IsSound w → IsTick w at.tick → kind_of w file ≡ Some File → size ≤ w.limits.bytes → IsSound (with_size w file size at)
IsSound-with_size w file size at sound tick is_file short = IsSound-with_new_bytes w file (λ old. resized old size) at sound tick is_file
    (λ old fits. subst (λ n. n ≤ w.limits.bytes) (sym (length-resized old size)) short)

pub KeepsJudged-with_size : (w : World) (file size : ℕ) (at : At) → KeepsJudged w (with_size w file size at)
KeepsJudged-with_size w file size at = KeepsJudged-with_new_bytes w file (λ old. resized old size) at

-- ---- the ACL, owner and group of an object

-- the ACL, the owner or the group of an object is set, and it takes the next stamp
abbrev with_new_stamp : World → ℕ → (Object → Object) → At → World
with_new_stamp w number f at = record w { objects = changed number f w.objects; next_tick = at.tick + 1; next_stamp = w.next_stamp + 1 }

IsSound-with_new_stamp : (w : World) (number : ℕ) (f : Object → Object) (at : At) → IsSound w → IsTick w at.tick → w.next_stamp < 2 ^ 63
    → ((o : Object) → (f o).kind ≡ o.kind) → ((o : Object) → (f o).stamp ≡ w.next_stamp) → ((o : Object) → IsFit w.limits (at.tick + 1) o → IsFit w.limits (at.tick + 1) (f o))
    → IsSound (with_new_stamp w number f at)
IsSound-with_new_stamp w number f at sound tick left kind stamp fits =
    let kinds : kind_of (with_new_stamp w number f at) ≡ kind_of w = fun_ext (option_map-changed (λ o. o.kind) number f w.objects kind) in
    let held = IsHeld-changed number f w.objects w.next_number (at.tick + 1) (λ o is. fits o) (IsHeld-later w.objects w.next_number w.next_tick (at.tick + 1) tick.fresh (held_in w sound)) in
    record {
      rooted = subst (λ k. IsRooted k w.names) (sym kinds) sound.rooted;
      stamped = IsStamped-restamped (stamp_of w) _ number w.next_stamp sound.stamped (λ k s is.
          let r = read_off (λ (o : Object). o.stamp) (object (with_new_stamp w number f at) k) s is in
          ⊎_elim (λ (c : Changed number f w.objects k r.value). inl (record { old = c.old.stamp; had = ap (option_map (λ o. o.stamp)) c.was_present; new = sym r.gives ∙ ap (λ (o : Object). o.stamp) c.new ∙ stamp c.old; here = c.here }))
          (λ (c : Kept number w.objects k r.value). inr (ap (option_map (λ o. o.stamp)) c.was_present ∙ ap Some r.gives))
          (changed_cases number f w.objects k r.value r.is));
      numbered = held.numbered;
      listed = sound.listed;
      few = held.few;
      fit = held.fit;
      limited = sound.limited;
      counted = record { numbers = sound.counted.numbers; ticks = (let goal : at.tick + 1 ≤ 2 ^ 63 = omega (arith, tick.left) in goal); stamps = (let goal : w.next_stamp + 1 ≤ 2 ^ 63 = omega (arith, left) in goal); cookies = sound.counted.cookies };
      allowed = sound.allowed;
    }

KeepsJudged-with_new_stamp : (w : World) (number : ℕ) (f : Object → Object) (at : At) → ((o : Object) → (f o).stamp ≡ w.next_stamp) → KeepsJudged w (with_new_stamp w number f at)
KeepsJudged-with_new_stamp w number f at stamp = record {
  stamps_rise = omega arith;
  same = λ k j is low.
      let r = read_off judged (object (with_new_stamp w number f at) k) j is in
      ⊎_elim (λ (c : Changed number f w.objects k r.value). let new : j.stamp ≡ w.next_stamp = sym (ap (λ (j : Judged). j.stamp) r.gives) ∙ ap (λ (o : Object). o.stamp) c.new ∙ stamp c.old in absurd (omega arith))
      (λ (c : Kept number w.objects k r.value). ap (option_map judged) c.was_present ∙ ap Some r.gives)
      (changed_cases number f w.objects k r.value r.is);
}

pub IsSound-with_list : (w : World) (number : ℕ) (list : List Entry) (high : ℕ) (at : At) → IsSound w → IsTick w at.tick → w.next_stamp < 2 ^ 63 → IsBounded list → IsSound (with_list w number list high at)
IsSound-with_list w number list high at sound tick left bounded =
    IsSound-with_new_stamp w number (λ o. retold at (record o { list = list; high = high; stamp = w.next_stamp })) at sound tick left (λ o. refl) (λ o. refl)
    (λ o fit. record { list = bounded; bytes = fit.bytes; change = let goal : at.tick < at.tick + 1 = omega arith in goal })

pub KeepsJudged-with_list : (w : World) (number : ℕ) (list : List Entry) (high : ℕ) (at : At) → KeepsJudged w (with_list w number list high at)
KeepsJudged-with_list w number list high at = KeepsJudged-with_new_stamp w number (λ o. retold at (record o { list = list; high = high; stamp = w.next_stamp })) at (λ o. refl)

pub IsSound-with_owner : (w : World) (number owner group : ℕ) (at : At) → IsSound w → IsTick w at.tick → w.next_stamp < 2 ^ 63 → IsSound (with_owner w number owner group at)
IsSound-with_owner w number owner group at sound tick left =
    IsSound-with_new_stamp w number (λ o. retold at (record o { owner = owner; group = group; stamp = w.next_stamp })) at sound tick left (λ o. refl) (λ o. refl)
    (λ o fit. record { list = fit.list; bytes = fit.bytes; change = let goal : at.tick < at.tick + 1 = omega arith in goal })

pub KeepsJudged-with_owner : (w : World) (number owner group : ℕ) (at : At) → KeepsJudged w (with_owner w number owner group at)
KeepsJudged-with_owner w number owner group at = KeepsJudged-with_new_stamp w number (λ o. retold at (record o { owner = owner; group = group; stamp = w.next_stamp })) at (λ o. refl)

-- ---- the times of an object

-- the times of an object after they are set
abbrev timed : Option Moment → Option Moment → At → Object → Object
timed access modify at o = retold at (record o { time_access = option_or access o.time_access; time_modify = unwrap_or modify o.time_modify })

pub IsSound-with_times : (w : World) (number : ℕ) (access modify : Option Moment) (at : At) → IsSound w → IsTick w at.tick → IsSound (with_times w number access modify at)
IsSound-with_times w number access modify at sound tick =
    let f = timed access modify at in
    let kinds : kind_of (with_times w number access modify at) ≡ kind_of w = fun_ext (option_map-changed (λ o. o.kind) number f w.objects (λ o. refl)) in
    let stamps : stamp_of (with_times w number access modify at) ≡ stamp_of w = fun_ext (option_map-changed (λ o. o.stamp) number f w.objects (λ o. refl)) in
    let held = IsHeld-changed number f w.objects w.next_number (at.tick + 1)
    (λ o is fit. record { list = fit.list; bytes = fit.bytes; change = let goal : at.tick < at.tick + 1 = omega arith in goal })
    (IsHeld-later w.objects w.next_number w.next_tick (at.tick + 1) tick.fresh (held_in w sound)) in
    record {
      rooted = subst (λ k. IsRooted k w.names) (sym kinds) sound.rooted;
      stamped = subst (λ s. IsStamped s w.next_stamp) (sym stamps) sound.stamped;
      numbered = held.numbered;
      listed = sound.listed;
      few = held.few;
      fit = held.fit;
      limited = sound.limited;
      counted = record { numbers = sound.counted.numbers; ticks = (let goal : at.tick + 1 ≤ 2 ^ 63 = omega (arith, tick.left) in goal); stamps = sound.counted.stamps; cookies = sound.counted.cookies };
      allowed = sound.allowed;
    }

pub KeepsJudged-with_times : (w : World) (number : ℕ) (access modify : Option Moment) (at : At) → KeepsJudged w (with_times w number access modify at)
KeepsJudged-with_times w number access modify at = record {
  stamps_rise = omega arith;
  same = λ k j is _. sym (option_map-changed judged number (timed access modify at) w.objects (λ o. refl) k) ∙ is;
}
