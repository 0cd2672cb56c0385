-- The laws that each operation meets by itself: an operation is a row of the table, and a law a field.
use Rattle.std.proofs.Common.{◌≡◌, ◌⊎◌, ℕ, Bool, true, false, refl}
use Rattle.std.proofs.Common.{inl, inr}
use Rattle.nfs_types.specs.declared.status.Status.{Status}
use Rattle.nfs_types.specs.declared.status.Status.TheVariants as statuses
use Rattle.nfs_ops.specs.Operations.{Operation, Known, Unsupported, Illegal, Bad, illegal}
use Rattle.nfs_ops.specs.Rows.{row}
use Rattle.nfs_ops.specs.declared.OpKind.TheVariants as kinds
use Rattle.access_rows.specs.Rows.{Demands}
use Rattle.compound_run.specs.Context.{Context, Handles}
use Rattle.compound_run.specs.Exact.{ArePassedOrSuffice}
use Rattle.compound_run.specs.Faults.{IsFault}
use Rattle.compound_run.specs.Meaning.{refusing}
use Rattle.compound_run.specs.Operations.{entered, entry_fault, entry_may, meaning}
use Rattle.compound_run.specs.Questions.{all_granted}
use Rattle.compound_run.specs.Sight.{Sight}
use Rattle.compound_laws.specs.Disclosure.{DisclosesNothing}
use Rattle.compound_laws.specs.internal.Lines.{AreExactly}
use Rattle.compound_laws.specs.RowsAsked.{first_of, second_of, table_rows, HasNoFirst, HasNoSecond, IsAmong, IsOntoItself}
use Rattle.compound_laws.proofs.Changing.{Parts, OfClose, OfCreate, OfLink, OfOpen, OfRemove, OfRename, OfSetAttr}
use Rattle.compound_laws.proofs.Changing.{OfWrite, OfReclaimComplete}
use Rattle.compound_laws.proofs.Seen.{IsSeen, discloses_nothing, lookup_discloses_nothing, remove_discloses_nothing}
use Rattle.compound_laws.proofs.HandlesSeen.{access_discloses_nothing, getfh_discloses_nothing, lookupp_discloses_nothing, putfh_discloses_nothing, putrootfh_discloses_nothing, readlink_discloses_nothing, restorefh_discloses_nothing, savefh_discloses_nothing}
use Rattle.compound_laws.proofs.NamesSeen.{create_discloses_nothing, link_discloses_nothing, rename_discloses_nothing}
use Rattle.compound_laws.proofs.Disclosed.{close_discloses_nothing, getattr_discloses_nothing, nverify_discloses_nothing, read_discloses_nothing, reclaim_complete_discloses_nothing, setattr_discloses_nothing, verify_discloses_nothing, write_discloses_nothing}
use Rattle.compound_laws.proofs.ListingSeen.{readdir_discloses_nothing}
use Rattle.compound_laws.proofs.OpenSeen.{open_discloses_nothing}

-- the questions of an operation that is OK
abbrev pub Passed : Context → Handles → Operation → Sight → Type 0
Passed c h op s = ArePassedOrSuffice (meaning c h op).caller s (meaning c h op).questions

abbrev pub IsGranted : Context → (Sight → Demands) → Sight → Type 0
IsGranted c row s = all_granted s.lists c.caller (row s) ≡ true

pub record Laws (c : Context) (h : Handles) (op : Operation) : Type 0 where
  -- it reveals to a caller no more than the caller may see
  pub discloses : DisclosesNothing (meaning c h op)
  -- it leaves the realm unchanged, or is one of those that change it
  pub changes : Parts c h op
  -- its questions are those of its line, with its rows and no others
  pub asks : AreExactly c h op (meaning c h op).questions
  -- each of its two rows is among them, or demands nothing for any facts; and if the operation is OK, the row was
  -- granted
  pub first_asked : IsAmong (first_of c h op) (table_rows c h op) ⊎ HasNoFirst op
  pub first_granted : (s : Sight) → Passed c h op s → IsGranted c (first_of c h op) s
  pub second_asked : IsAmong (second_of c h op) (table_rows c h op) ⊎ HasNoSecond op
  pub second_granted : (s : Sight) → Passed c h op s → IsGranted c (second_of c h op) s ⊎ IsOntoItself h op s

-- an operation that is refused in every realm
refused_seen : (c : Context) (h : Handles) (op : Operation) (number : ℕ) (status : Status) (is : IsFault status) → IsSeen (entered (entry_fault c op) (entry_may c op) (refusing c h number status is))
refused_seen c h op number status is w = (refl, λ _. (refl, λ _. refl))

refusals_disclose_nothing : (c : Context) (h : Handles) (op : Operation) (number : ℕ) (status : Status) (is : IsFault status)
    → DisclosesNothing (entered (entry_fault c op) (entry_may c op) (refusing c h number status is))
refusals_disclose_nothing c h op number status is = discloses_nothing (entered (entry_fault c op) (entry_may c op) (refusing c h number status is)) (refused_seen c h op number status is)

-- one of these, after a question that may suffice
unless : {A B C : Type 0} → (A → B) → C ⊎ A → B ⊎ C
unless goes (inl is) = inr is
unless goes (inr more) = inl (goes more)

-- RECLAIM_COMPLETE has the questions of one file system, or of all
reclaim_asks : (c : Context) (h : Handles) (one_fs : Bool)
    → AreExactly c h (Known kinds.ReclaimComplete one_fs) (meaning c h (Known kinds.ReclaimComplete one_fs)).questions
reclaim_asks c h true = (refl, refl)
reclaim_asks c h false = (refl, refl)

pub laws_of : (c : Context) (h : Handles) (op : Operation) → Laws c h op
laws_of c h (Known kinds.Access v) = record {
  discloses = access_discloses_nothing c h v;
  changes = inl (λ r. refl);
  asks = (refl, refl);
  first_asked = inr (λ facts. tt);
  first_granted = λ s p. refl;
  second_asked = inr (λ facts. tt);
  second_granted = λ s p. inl refl;
}
laws_of c h (Known kinds.Close v) = record {
  discloses = close_discloses_nothing c h v;
  changes = inr (OfClose v, refl);
  asks = (refl, refl);
  first_asked = inr (λ facts. tt);
  first_granted = λ s p. refl;
  second_asked = inr (λ facts. tt);
  second_granted = λ s p. inl refl;
}
laws_of c h (Known kinds.Commit v) = record {
  discloses = discloses_nothing (meaning c h (Known kinds.Commit v)) (λ w. (refl, λ _. (refl, λ _. (refl, λ _. (refl, λ _. (refl, λ _. refl))))));
  changes = inl (λ r. refl);
  asks = (refl, refl);
  first_asked = inr (λ facts. tt);
  first_granted = λ s p. refl;
  second_asked = inr (λ facts. tt);
  second_granted = λ s p. inl refl;
}
laws_of c h (Known kinds.Create v) = record {
  discloses = create_discloses_nothing c h v;
  changes = inr (OfCreate v, refl);
  asks = (refl, refl);
  first_asked = inl (inl refl);
  first_granted = λ s p. p.1.1.1.1.1.1.1.1.1.0;
  second_asked = inr (λ facts. tt);
  second_granted = λ s p. inl refl;
}
laws_of c h (Known kinds.GetAttr v) = record {
  discloses = getattr_discloses_nothing c h v;
  changes = inl (λ r. refl);
  asks = (refl, refl);
  first_asked = inl (inl refl);
  first_granted = λ s p. p.1.1.1.1.0;
  second_asked = inr (λ facts. tt);
  second_granted = λ s p. inl refl;
}
laws_of c h (Known kinds.GetFh tt) = record {
  discloses = getfh_discloses_nothing c h;
  changes = inl (λ r. refl);
  asks = (refl, refl);
  first_asked = inr (λ facts. tt);
  first_granted = λ s p. refl;
  second_asked = inr (λ facts. tt);
  second_granted = λ s p. inl refl;
}
laws_of c h (Known kinds.Link v) = record {
  discloses = link_discloses_nothing c h v;
  changes = inr (OfLink v, refl);
  asks = (refl, refl);
  first_asked = inl (inl refl);
  first_granted = λ s p. p.1.1.1.1.1.1.1.1.0;
  second_asked = inr (λ facts. tt);
  second_granted = λ s p. inl refl;
}
laws_of c h (Known kinds.Lookup v) = record {
  discloses = lookup_discloses_nothing c h v;
  changes = inl (λ r. refl);
  asks = (refl, refl);
  first_asked = inl (inl refl);
  first_granted = λ s p. p.1.1.1.1.1.1.0;
  second_asked = inr (λ facts. tt);
  second_granted = λ s p. inl refl;
}
laws_of c h (Known kinds.LookupP tt) = record {
  discloses = lookupp_discloses_nothing c h;
  changes = inl (λ r. refl);
  asks = (refl, refl);
  first_asked = inl (inl refl);
  first_granted = λ s p. p.1.1.1.1.1.0;
  second_asked = inr (λ facts. tt);
  second_granted = λ s p. inl refl;
}
laws_of c h (Known kinds.NVerify v) = record {
  discloses = nverify_discloses_nothing c h v;
  changes = inl (λ r. refl);
  asks = (refl, refl);
  first_asked = inl (inl refl);
  first_granted = λ s p. p.1.1.1.1.0;
  second_asked = inr (λ facts. tt);
  second_granted = λ s p. inl refl;
}
laws_of c h (Known kinds.Open v) = record {
  discloses = open_discloses_nothing c h v;
  changes = inr (OfOpen v, refl);
  asks = (refl, refl);
  first_asked = inl (inl refl);
  first_granted = λ s p. p.1.1.1.1.1.1.0;
  second_asked = inl (inr (inl refl));
  second_granted = λ s p. inl p.1.1.1.1.1.1.1.1.0;
}
laws_of c h (Known kinds.PutFh v) = record {
  discloses = putfh_discloses_nothing c h v;
  changes = inl (λ r. refl);
  asks = (refl, refl);
  first_asked = inr (λ facts. tt);
  first_granted = λ s p. refl;
  second_asked = inr (λ facts. tt);
  second_granted = λ s p. inl refl;
}
laws_of c h (Known kinds.PutRootFh tt) = record {
  discloses = putrootfh_discloses_nothing c h;
  changes = inl (λ r. refl);
  asks = (refl, refl);
  first_asked = inr (λ facts. tt);
  first_granted = λ s p. refl;
  second_asked = inr (λ facts. tt);
  second_granted = λ s p. inl refl;
}
laws_of c h (Known kinds.Read v) = record {
  discloses = read_discloses_nothing c h v;
  changes = inl (λ r. refl);
  asks = (refl, refl);
  first_asked = inl (inl refl);
  first_granted = λ s p. p.1.1.1.1.1.1.0;
  second_asked = inr (λ facts. tt);
  second_granted = λ s p. inl refl;
}
laws_of c h (Known kinds.ReadDir v) = record {
  discloses = readdir_discloses_nothing c h v;
  changes = inl (λ r. refl);
  asks = (refl, refl);
  first_asked = inl (inl refl);
  first_granted = λ s p. p.1.1.1.1.1.1.0;
  second_asked = inl (inr (inl refl));
  second_granted = λ s p. inl p.1.1.1.1.1.1.1.0;
}
laws_of c h (Known kinds.ReadLink tt) = record {
  discloses = readlink_discloses_nothing c h;
  changes = inl (λ r. refl);
  asks = (refl, refl);
  first_asked = inl (inl refl);
  first_granted = λ s p. p.1.1.1.1.0;
  second_asked = inr (λ facts. tt);
  second_granted = λ s p. inl refl;
}
laws_of c h (Known kinds.Remove v) = record {
  discloses = remove_discloses_nothing c h v;
  changes = inr (OfRemove v, refl);
  asks = (refl, refl);
  first_asked = inl (inl refl);
  first_granted = λ s p. p.1.1.1.1.1.0;
  second_asked = inl (inr (inl refl));
  second_granted = λ s p. inl p.1.1.1.1.1.1.1.0;
}
laws_of c h (Known kinds.Rename v) = record {
  discloses = rename_discloses_nothing c h v;
  changes = inr (OfRename v, refl);
  asks = (refl, refl);
  first_asked = inl (inl refl);
  first_granted = λ s p. p.1.1.1.1.1.1.1.1.1.0;
  second_asked = inl (inr (inl refl));
  second_granted = λ s p. unless (λ more. more.1.1.1.0) (p.1.1.1.1.1.1.1.1.1.1.1);
}
laws_of c h (Known kinds.RestoreFh tt) = record {
  discloses = restorefh_discloses_nothing c h;
  changes = inl (λ r. refl);
  asks = (refl, refl);
  first_asked = inr (λ facts. tt);
  first_granted = λ s p. refl;
  second_asked = inr (λ facts. tt);
  second_granted = λ s p. inl refl;
}
laws_of c h (Known kinds.SaveFh tt) = record {
  discloses = savefh_discloses_nothing c h;
  changes = inl (λ r. refl);
  asks = (refl, refl);
  first_asked = inr (λ facts. tt);
  first_granted = λ s p. refl;
  second_asked = inr (λ facts. tt);
  second_granted = λ s p. inl refl;
}
laws_of c h (Known kinds.SetAttr v) = record {
  discloses = setattr_discloses_nothing c h v;
  changes = inr (OfSetAttr v, refl);
  asks = (refl, refl);
  first_asked = inl (inl refl);
  first_granted = λ s p. p.1.1.1.1.1.0;
  second_asked = inr (λ facts. tt);
  second_granted = λ s p. inl refl;
}
laws_of c h (Known kinds.Verify v) = record {
  discloses = verify_discloses_nothing c h v;
  changes = inl (λ r. refl);
  asks = (refl, refl);
  first_asked = inl (inl refl);
  first_granted = λ s p. p.1.1.1.1.0;
  second_asked = inr (λ facts. tt);
  second_granted = λ s p. inl refl;
}
laws_of c h (Known kinds.Write v) = record {
  discloses = write_discloses_nothing c h v;
  changes = inr (OfWrite v, refl);
  asks = (refl, refl);
  first_asked = inl (inl refl);
  first_granted = λ s p. p.1.1.1.1.1.1.0;
  second_asked = inr (λ facts. tt);
  second_granted = λ s p. inl refl;
}
laws_of c h (Known kinds.ReclaimComplete v) = record {
  discloses = reclaim_complete_discloses_nothing c h v;
  changes = inr (OfReclaimComplete v, refl);
  asks = reclaim_asks c h v;
  first_asked = inr (λ facts. tt);
  first_granted = λ s p. refl;
  second_asked = inr (λ facts. tt);
  second_granted = λ s p. inl refl;
}
laws_of c h (Known kinds.ExchangeId v) = record {
  discloses = refusals_disclose_nothing c h (Known kinds.ExchangeId v) (row kinds.ExchangeId).number statuses.NotSupp tt;
  changes = inl (λ r. refl);
  asks = (refl, refl);
  first_asked = inr (λ facts. tt);
  first_granted = λ s p. refl;
  second_asked = inr (λ facts. tt);
  second_granted = λ s p. inl refl;
}
laws_of c h (Known kinds.CreateSession v) = record {
  discloses = refusals_disclose_nothing c h (Known kinds.CreateSession v) (row kinds.CreateSession).number statuses.NotSupp tt;
  changes = inl (λ r. refl);
  asks = (refl, refl);
  first_asked = inr (λ facts. tt);
  first_granted = λ s p. refl;
  second_asked = inr (λ facts. tt);
  second_granted = λ s p. inl refl;
}
laws_of c h (Known kinds.DestroySession v) = record {
  discloses = refusals_disclose_nothing c h (Known kinds.DestroySession v) (row kinds.DestroySession).number statuses.NotSupp tt;
  changes = inl (λ r. refl);
  asks = (refl, refl);
  first_asked = inr (λ facts. tt);
  first_granted = λ s p. refl;
  second_asked = inr (λ facts. tt);
  second_granted = λ s p. inl refl;
}
laws_of c h (Known kinds.Sequence v) = record {
  discloses = refusals_disclose_nothing c h (Known kinds.Sequence v) (row kinds.Sequence).number statuses.NotSupp tt;
  changes = inl (λ r. refl);
  asks = (refl, refl);
  first_asked = inr (λ facts. tt);
  first_granted = λ s p. refl;
  second_asked = inr (λ facts. tt);
  second_granted = λ s p. inl refl;
}
laws_of c h (Known kinds.DestroyClientId v) = record {
  discloses = refusals_disclose_nothing c h (Known kinds.DestroyClientId v) (row kinds.DestroyClientId).number statuses.NotSupp tt;
  changes = inl (λ r. refl);
  asks = (refl, refl);
  first_asked = inr (λ facts. tt);
  first_granted = λ s p. refl;
  second_asked = inr (λ facts. tt);
  second_granted = λ s p. inl refl;
}
laws_of c h (Unsupported n) = record {
  discloses = refusals_disclose_nothing c h (Unsupported n) n statuses.NotSupp tt;
  changes = inl (λ r. refl);
  asks = (refl, refl);
  first_asked = inr (λ facts. tt);
  first_granted = λ s p. refl;
  second_asked = inr (λ facts. tt);
  second_granted = λ s p. inl refl;
}
laws_of c h Illegal = record {
  discloses = refusals_disclose_nothing c h Illegal illegal statuses.OpIllegal tt;
  changes = inl (λ r. refl);
  asks = (refl, refl);
  first_asked = inr (λ facts. tt);
  first_granted = λ s p. refl;
  second_asked = inr (λ facts. tt);
  second_granted = λ s p. inl refl;
}
laws_of c h (Bad n) = record {
  discloses = refusals_disclose_nothing c h (Bad n) n statuses.BadXdr tt;
  changes = inl (λ r. refl);
  asks = (refl, refl);
  first_asked = inr (λ facts. tt);
  first_granted = λ s p. refl;
  second_asked = inr (λ facts. tt);
  second_granted = λ s p. inl refl;
}
