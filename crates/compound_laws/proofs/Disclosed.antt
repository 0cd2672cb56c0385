-- Operations on one object reveal to a caller no more than the caller may see.
use Rattle.std.proofs.Common.{◌≡◌, ℕ, true, false, List, refl, ap}
use Rattle.std.specs.Prelude.{◌+◌, nat_le, not, nat_eq, length, take, drop, Option, Some, None}
use Rattle.std.specs.Cmp.Lexicographic.{pointwise}
use Rattle.xdr_wire.specs.Xdr.{Value}
use Rattle.rpc_record.specs.Identity.{Identity}
use Rattle.nfs_types.specs.Forms.{stateid}
use Rattle.nfs_types.specs.Given.{given_set}
use Rattle.nfs_types.specs.Sent.{Wanted}
use Rattle.nfs_types.specs.declared.status.Status.TheVariants as statuses
use Rattle.nfs_ops.specs.Forms.{close_args, verify_args, nverify_args, read_args, setattr_args, write_args, reclaim_complete_args, getattr_size}
use Rattle.nfs_ops.specs.Operations.{Known}
use Rattle.nfs_ops.specs.Parts.{set_of, values_of, set_stateid, read_offset, read_count, read_gives}
use Rattle.nfs_ops.specs.declared.OpKind.TheVariants as kinds
use Rattle.nfs_ops.specs.Results.{Done}
use Rattle.compound_run.specs.Realm.{Realm}
use Rattle.compound_run.specs.Context.{Context, Handles}
use Rattle.compound_run.specs.Sight.{whole, view}
use Rattle.compound_run.specs.Meaning.{here}
use Rattle.compound_run.specs.Operations.Getattr.{attributes_of}
use Rattle.compound_run.specs.Operations.Read.{most_of}
use Rattle.compound_run.specs.Operations.{meaning}
use Rattle.compound_run.specs.Requested.{requested}
use Rattle.compound_run.specs.Operations.Setattr.{can_count, has_space_to_set, size_fault, wanted_on}
use Rattle.compound_run.specs.Operations.Verify.{is_same}
use Rattle.compound_laws.specs.Disclosure.{DisclosesNothing}
use Rattle.compound_laws.proofs.Seen.{IsSeen, discloses_nothing}
use Rattle.compound_laws.proofs.Observing.{reads, bytes_seen, may_see, values_seen}

close_seen : (c : Context) (h : Handles) (v : Value close_args) → IsSeen (meaning c h (Known kinds.Close v))
close_seen c h v w = (refl, λ _. (refl, λ _. (refl, λ _. (refl, λ _. refl))))

getattr_seen : (c : Context) (h : Handles) (asked : List ℕ) → IsSeen (meaning c h (Known kinds.GetAttr asked))
unfolding attributes_of
getattr_seen c h asked w = (
  refl,
  λ _. (
    refl,
    λ some. (
      refl,
      λ live. (
        refl,
        λ _. (
          refl,
          λ granted.
              let set = requested c asked in
              let same = values_seen c.book w c.caller (here h) statuses.Ok set (may_see w c.caller h.current set some live granted) in
              (ap (λ values. nat_le (getattr_size (length (given_set set)) (length values)) c.room) same, λ _. ap (λ values. Done kinds.GetAttr (given_set set, values)) same),
        ),
      ),
    ),
  ),
)

verify_seen : (c : Context) (h : Handles) (v : Value verify_args) → IsSeen (meaning c h (Known kinds.Verify v))
unfolding is_same
verify_seen c h v w = (
  refl,
  λ _. (
    refl,
    λ set. (
      refl,
      λ live. (
        refl,
        λ _. (
          refl,
          λ granted.
              let same = values_seen c.book w c.caller (here h) statuses.Ok (set_of v) (may_see w c.caller h.current (set_of v) set live granted) in
              (ap (λ values. pointwise nat_eq values (values_of v)) same, λ _. refl),
        ),
      ),
    ),
  ),
)

nverify_seen : (c : Context) (h : Handles) (v : Value nverify_args) → IsSeen (meaning c h (Known kinds.NVerify v))
unfolding is_same
nverify_seen c h v w = (
  refl,
  λ _. (
    refl,
    λ set. (
      refl,
      λ live. (
        refl,
        λ _. (
          refl,
          λ granted.
              let same = values_seen c.book w c.caller (here h) statuses.Ok (set_of v) (may_see w c.caller h.current (set_of v) set live granted) in
              (ap (λ values. not (pointwise nat_eq values (values_of v))) same, λ _. refl),
        ),
      ),
    ),
  ),
)

read_seen : (c : Context) (h : Handles) (v : Value read_args) → IsSeen (meaning c h (Known kinds.Read v))
read_seen c h v w = (
  refl,
  λ _. (
    refl,
    λ set. (
      refl,
      λ live. (
        refl,
        λ _. (
          refl,
          λ _. (
            refl,
            λ _. (
              refl,
              λ granted.
                  ap (λ bytes.
                  let part = take (most_of (read_count v) c.room) (drop (read_offset v) bytes) in
                  Done kinds.Read (read_gives (nat_le ((whole w).sizes (here h)) (read_offset v + length part)) part))
                  (bytes_seen w c.caller (here h) (reads w c.caller h.current set live granted)),
            ),
          ),
        ),
      ),
    ),
  ),
)

pub close_discloses_nothing : (c : Context) (h : Handles) (v : Value close_args) → DisclosesNothing (meaning c h (Known kinds.Close v))
close_discloses_nothing c h v = discloses_nothing (meaning c h (Known kinds.Close v)) (close_seen c h v)

pub getattr_discloses_nothing : (c : Context) (h : Handles) (asked : List ℕ) → DisclosesNothing (meaning c h (Known kinds.GetAttr asked))
getattr_discloses_nothing c h asked = discloses_nothing (meaning c h (Known kinds.GetAttr asked)) (getattr_seen c h asked)

pub verify_discloses_nothing : (c : Context) (h : Handles) (v : Value verify_args) → DisclosesNothing (meaning c h (Known kinds.Verify v))
verify_discloses_nothing c h v = discloses_nothing (meaning c h (Known kinds.Verify v)) (verify_seen c h v)

pub nverify_discloses_nothing : (c : Context) (h : Handles) (v : Value nverify_args) → DisclosesNothing (meaning c h (Known kinds.NVerify v))
nverify_discloses_nothing c h v = discloses_nothing (meaning c h (Known kinds.NVerify v)) (nverify_seen c h v)

pub read_discloses_nothing : (c : Context) (h : Handles) (v : Value read_args) → DisclosesNothing (meaning c h (Known kinds.Read v))
read_discloses_nothing c h v = discloses_nothing (meaning c h (Known kinds.Read v)) (read_seen c h v)

write_seen : (c : Context) (h : Handles) (v : Value write_args) → IsSeen (meaning c h (Known kinds.Write v))
write_seen c h v w = (refl, λ _. (refl, λ _. (refl, λ _. (refl, λ _. (refl, λ _. (refl, λ _. (refl, λ _. (refl, λ _. (refl, λ _. refl)))))))))

pub write_discloses_nothing : (c : Context) (h : Handles) (v : Value write_args) → DisclosesNothing (meaning c h (Known kinds.Write v))
write_discloses_nothing c h v = discloses_nothing (meaning c h (Known kinds.Write v)) (write_seen c h v)

size_seen : (w : Realm) (c : Context) (number : ℕ) (id : Value stateid) (size : Option ℕ) → size_fault size c number id (whole w) ≡ size_fault size c number id (view w c.caller)
size_seen w c number id None = refl
size_seen w c number id (Some size) = refl

-- every caller sees the counters, and the access control list into which a dacl, a sacl or a mode is put
space_seen : (w : Realm) (caller : Identity) (wanted : Wanted) (number : ℕ) → has_space_to_set wanted number (whole w) ≡ has_space_to_set wanted number (view w caller)
unfolding can_count
space_seen w caller wanted number = refl

setattr_seen : (c : Context) (h : Handles) (v : Value setattr_args) → IsSeen (meaning c h (Known kinds.SetAttr v))
setattr_seen c h v w = (
  refl,
  λ _. (
    refl,
    λ _. (
      refl,
      λ _. (
        refl,
        λ _. (
          size_seen w c (here h) (set_stateid v) (wanted_on c v (here h) (whole w)).size,
          λ _. (refl, λ _. (refl, λ _. (space_seen w c.caller (wanted_on c v (here h) (whole w)) (here h), λ _. refl))),
        ),
      ),
    ),
  ),
)

pub setattr_discloses_nothing : (c : Context) (h : Handles) (v : Value setattr_args) → DisclosesNothing (meaning c h (Known kinds.SetAttr v))
setattr_discloses_nothing c h v = discloses_nothing (meaning c h (Known kinds.SetAttr v)) (setattr_seen c h v)

reclaim_complete_seen : (c : Context) (h : Handles) (v : Value reclaim_complete_args) → IsSeen (meaning c h (Known kinds.ReclaimComplete v))
reclaim_complete_seen c h true w = (refl, λ _. (refl, λ _. (refl, λ _. refl)))
reclaim_complete_seen c h false w = (refl, λ _. (refl, λ _. refl))

pub reclaim_complete_discloses_nothing : (c : Context) (h : Handles) (v : Value reclaim_complete_args) → DisclosesNothing (meaning c h (Known kinds.ReclaimComplete v))
reclaim_complete_discloses_nothing c h v = discloses_nothing (meaning c h (Known kinds.ReclaimComplete v)) (reclaim_complete_seen c h v)
