-- Lines one after another.
use Rattle.std.proofs.Common.{◌≡◌, ℕ, ◌+◌, ◌<◌, Bool, refl, List, ap, sym, drop, length, get_or, add-one, append_assoc}
use Rattle.std.specs.Prelude.{[], ◌∷◌, ◌++◌, Option, Some, None}
use Rattle.std.specs.List.{filter_map, enumerate_from}
use Rattle.std.proofs.Math.Seq.{drop-cons}
use Rattle.rpc_record.specs.Identity.{Identity}
use Rattle.acl_list.specs.Places as places
use Rattle.acl_list.specs.declared.mask.TheConstants.{DELETE, ADD_FILE, WRITE_ATTRIBUTES, WRITE_DATA}
use Rattle.acl_list.specs.declared.answer.FirstMatch.{FirstMatch}
use Rattle.node_tree.specs.Judged.{Judged}
use Rattle.access_rows.specs.declared.demand.Demand.TheVariants.{Removal, ServerTime}
use Rattle.access_guard.specs.declared.decision.Decision.{Decision}
use Rattle.access_guard.specs.declared.line.Line.{Line}
use Rattle.access_guard.specs.Lists.{Lists, first_match_at, verdict_of, verdict_at}
use Rattle.access_guard.specs.Decisions.{answer, removal, is_granted, time_mask}
use Rattle.access_guard.specs.Lines.{lines_of, watch_lines, deny_lines, parent_mask, lines}
use Rattle.access_guard.specs.Log.{Log, held}

-- a step of a loop that collects the values of f
pub step-some : {X Y : Type 0} (f : ℕ × X → Option Y) (xs ys : List X) (i : ℕ) (d : X) (done : List Y) (y : Y) → ys ≡ xs → i < length ys → f (i, get_or ys i d) ≡ Some y
    → (done ++ y ∷ []) ++ filter_map f (enumerate_from (i + 1) (drop (i + 1) xs)) ≡ done ++ filter_map f (enumerate_from i (drop i xs))
step-some f xs ys i d done y same below gives = rw (sym same) (rw (drop-cons ys i d below) (rw add-one (rw gives (simp append_assoc))))

pub step-none : {X Y : Type 0} (f : ℕ × X → Option Y) (xs ys : List X) (i : ℕ) (d : X) (done : List Y) → ys ≡ xs → i < length ys → f (i, get_or ys i d) ≡ None
    → done ++ filter_map f (enumerate_from (i + 1) (drop (i + 1) xs)) ≡ done ++ filter_map f (enumerate_from i (drop i xs))
step-none f xs ys i d done same below gives = rw (sym same) (rw (drop-cons ys i d below) (rw add-one (rw gives refl)))

held-three : (log : Log) (a b c : List Line) → held c (held b (held a log)) ≡ held ((a ++ b) ++ c) log
held-three log a b c = ap (λ lines. record log { held = lines }) (simp append_assoc)

-- the lines of a removal, part by part
pub removal_lines : (lists : Lists) (caller : Identity) (op parent target : ℕ) (on_target on_parent : FirstMatch) (decided : Decision) (granted : Bool) (mask : ℕ) (old one two new : Log)
    → on_target ≡ first_match_at lists caller target places.delete → on_parent ≡ first_match_at lists caller parent places.delete_child
    → decided ≡ removal parent target on_target on_parent (verdict_at lists caller parent ADD_FILE) → granted ≡ is_granted decided → mask ≡ parent_mask on_target on_parent
    → one ≡ held (watch_lines lists caller op granted target DELETE) old → two ≡ held (watch_lines lists caller op granted parent mask) one → new ≡ held (deny_lines caller op decided) two
    → new ≡ held (lines lists caller op (Removal parent target)) old
removal_lines lists caller op parent target on_target on_parent decided granted mask old one two new t p d g m first second third =
    rw third (rw second (rw first (rw m (rw g (rw d (rw t (rw p (held-three old _ _ _))))))))

-- the lines of a time of the server's, by the access control list that is opened
pub time_lines : (lists : Lists) (caller : Identity) (op object : ℕ) (opened : Option Judged) (mask : ℕ) (decided : Decision) (old new : Log)
    → opened ≡ lists object → mask ≡ time_mask (verdict_of opened caller WRITE_ATTRIBUTES) (verdict_of opened caller WRITE_DATA)
    → decided ≡ answer object mask (verdict_of opened caller mask) → new ≡ held (lines_of opened caller op (is_granted decided) object mask ++ deny_lines caller op decided) old
    → new ≡ held (lines lists caller op (ServerTime object)) old
time_lines lists caller op object opened mask decided old new o m d h = rw h (rw d (rw m (rw o refl)))
