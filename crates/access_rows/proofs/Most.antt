-- The number of access control lists (ACLs) that decide an operation's demands.
use Rattle.std.proofs.Common.{◌≡◌, ℕ, ◌+◌, ◌≤◌, ◌==◌, arith, cond, Bool, true, false, List}
use Rattle.std.specs.Prelude.{[], ◌∷◌, Option, Some, None}
use Rattle.std.specs.Option.{option_map}
use Rattle.acl_list.specs.declared.mask.TheConstants.{EXECUTE}
use Rattle.nfs_ops.specs.Operations.{Operation, Known}
use Rattle.nfs_ops.specs.Parts as parts
use Rattle.nfs_ops.specs.Parts.{How, Claim, claim_of, how_of, open_access}
use Rattle.nfs_ops.specs.declared.OpKind.TheVariants as kinds
use Rattle.access_rows.specs.declared.demand.Demand.{Demand}
use Rattle.access_rows.specs.declared.demand.Demand.TheVariants.{Bits, ServerTime}
use Rattle.access_rows.specs.declared.facts.Object.{Object}
use Rattle.access_rows.specs.declared.facts.Clock.{Clock}
use Rattle.access_rows.specs.declared.facts.Clock.TheVariants.{Server, Client}
use Rattle.access_rows.specs.declared.facts.First.{First}
use Rattle.access_rows.specs.declared.facts.Second.{Second}
use Rattle.access_rows.specs.Rows.{Demands, lists_in, most_first, most_second, most_of_entry, bits, removal, is_servers, row, opening, open_first, open_second, is_one, is_creating, rename_first, first_demands, second_demands, entry_demands}

-- the number of ACLs for one demand
abbrev lists_at : Option Demand → ℕ
lists_at d = lists_in (d ∷ [])

more : (d : Option Demand) (ds : Demands) → lists_in (d ∷ ds) ≡ lists_at d + lists_in ds
more None ds = omega arith
more (Some d) ds = omega arith

bits_few : (o : Option Object) (mask : ℕ) → lists_at (bits o mask) ≤ 1
bits_few None mask = omega arith
bits_few (Some o) mask = elim (mask == 0) as (λ b. lists_at (cond b None (Some (Bits o.number mask))) ≤ 1) [
  | true ↦ omega arith
  | false ↦ omega arith
]

removal_few : (a b : Option Object) → lists_at (removal a b) ≤ 2
removal_few (Some a) (Some b) = omega arith
removal_few (Some a) None = omega arith
removal_few None b = omega arith

timing_few : (clock : Option Clock) (o : Option Object) → lists_at (cond (is_servers clock) (option_map (λ x. ServerTime x.number) o) None) ≤ 1
timing_few (Some Server) (Some o) = omega arith
timing_few (Some Server) None = omega arith
timing_few (Some Client) o = omega arith
timing_few None o = omega arith

two_few : (a b : Option Demand) → lists_at a ≤ 1 → lists_at b ≤ 1 → lists_in (a ∷ b ∷ []) ≤ 2
two_few a b ha hb = omega (arith, more a (b ∷ []), ha, hb)

row_few : (d : Option Demand) → lists_at d ≤ 1 → lists_in (row d) ≤ 2
row_few d h = omega (arith, more d (None ∷ []), h)

other_few : (b : Bool) (o : Option Object) (mask : ℕ) → lists_at (cond b None (bits o mask)) ≤ 1
other_few true o mask = omega arith
other_few false o mask = bits_few o mask

adding_few : (b : Bool) (o : Option Object) (mask : ℕ) → lists_at (cond b (bits o mask) None) ≤ 1
adding_few true o mask = bits_few o mask
adding_few false o mask = omega arith

opening_few : (child : Option Object) (access : ℕ) (how : How) (facts : Second) → lists_at (opening child access how facts) ≤ 1
opening_few None access how facts = adding_few (is_creating how) facts.current _
opening_few (Some file) access how facts = bits_few (Some file) _

open_first_few : (claim : Claim) (current : Option Object) → lists_at (open_first claim current) ≤ 1
open_first_few (parts.ByName name) current = bits_few current _
open_first_few parts.ByHandle current = omega arith

open_second_few : (claim : Claim) (access : ℕ) (how : How) (facts : Second) → lists_at (open_second claim access how facts) ≤ 1
open_second_few (parts.ByName name) access how facts = opening_few facts.child access how facts
open_second_few parts.ByHandle access how facts = bits_few facts.current _

rename_first_few : (facts : First) → lists_in (rename_first facts) ≤ 2
rename_first_few facts =
    let a : Option Demand = bits facts.saved EXECUTE in
    let b : Option Demand = cond (is_one facts.saved facts.current) None (bits facts.current EXECUTE) in
    let ha : lists_at a ≤ 1 = bits_few facts.saved EXECUTE in
    let hb : lists_at b ≤ 1 = other_few (is_one facts.saved facts.current) facts.current EXECUTE in
    omega (arith, more a (b ∷ []), ha, hb)

pub first_few : (op : Operation) (facts : First) → lists_in (first_demands op facts) ≤ most_first
first_few (Known kinds.Create v) facts = row_few _ (bits_few facts.current _)
first_few (Known kinds.GetAttr v) facts = row_few _ (bits_few facts.current _)
first_few (Known kinds.Link v) facts = row_few _ (bits_few facts.current _)
first_few (Known kinds.Lookup v) facts = row_few _ (bits_few facts.current _)
first_few (Known kinds.LookupP v) facts = row_few _ (bits_few facts.current _)
first_few (Known kinds.NVerify v) facts = row_few _ (bits_few facts.current _)
first_few (Known kinds.Open v) facts = row_few _ (open_first_few (claim_of v) facts.current)
first_few (Known kinds.Read v) facts = row_few _ (bits_few facts.current _)
first_few (Known kinds.ReadDir v) facts = row_few _ (bits_few facts.current _)
first_few (Known kinds.ReadLink v) facts = row_few _ (bits_few facts.current _)
first_few (Known kinds.Remove v) facts = row_few _ (bits_few facts.current _)
first_few (Known kinds.Rename v) facts = rename_first_few facts
first_few (Known kinds.SetAttr v) facts = two_few _ _ (bits_few facts.current _) (timing_few facts.clock facts.current)
first_few (Known kinds.Verify v) facts = row_few _ (bits_few facts.current _)
first_few (Known kinds.Write v) facts = row_few _ (bits_few facts.current _)
first_few _ facts = omega arith

three : (a b c : Option Demand) → lists_in (a ∷ b ∷ c ∷ []) ≡ lists_at a + (lists_at b + lists_at c)
three a b c = omega (arith, more a (b ∷ c ∷ []), more b (c ∷ []))

second_at_most : (a b c : Option Demand) → lists_at a ≤ 2 → lists_at b ≤ 1 → lists_at c ≤ 2 → lists_in (a ∷ b ∷ c ∷ []) ≤ 5
second_at_most a b c ha hb hc = omega (arith, three a b c, ha, hb, hc)

wider : (n : ℕ) → n ≤ 1 → n ≤ 2
wider n h = omega (arith, h)

none_few : (n : ℕ) → 0 ≤ n
none_few n = omega arith

pub second_few : (op : Operation) (facts : Second) → lists_in (second_demands op facts) ≤ most_second
second_few (Known kinds.Open v) facts =
    second_at_most (open_second (claim_of v) (open_access v) (how_of v) facts) None None (wider _ (open_second_few (claim_of v) (open_access v) (how_of v) facts)) (none_few 1) (none_few 2)
second_few (Known kinds.Remove v) facts = second_at_most (removal facts.current facts.child) None None (removal_few facts.current facts.child) (none_few 1) (none_few 2)
second_few (Known kinds.Rename v) facts = second_at_most _ _ _ (removal_few facts.saved facts.child) (bits_few facts.current _) (removal_few facts.current facts.replaced)
second_few _ facts = omega arith

pub entry_few : (set : List ℕ) (entry : Option Object) → lists_in (entry_demands set entry) ≤ most_of_entry
entry_few set entry = two_few _ _ (bits_few entry _) (bits_few entry _)
