-- Arguments that aren't supported: the value of their form.
use Rattle.std.proofs.Common.{inl, inr}
use Rattle.xdr_wire.specs.Xdr.{Value}
use Rattle.nfs_ops.specs.Forms.{exclusive, other_claim, protection}
use Rattle.nfs_ops.specs.declared.unsupported.Exclusive.{Exclusive}
use Rattle.nfs_ops.specs.declared.unsupported.Exclusive.TheVariants.{Plain, WithAttributes}
use Rattle.nfs_ops.specs.declared.unsupported.OtherClaim.{OtherClaim}
use Rattle.nfs_ops.specs.declared.unsupported.OtherClaim.TheVariants.{Previous, DelegateCurrent, DelegatePrevious}
use Rattle.nfs_ops.specs.declared.unsupported.OtherClaim.TheVariants.{DelegateCurrentByHandle}
use Rattle.nfs_ops.specs.declared.unsupported.OtherClaim.TheVariants.{DelegatePreviousByHandle}
use Rattle.nfs_ops.specs.declared.unsupported.Protection.{Protection}
use Rattle.nfs_ops.specs.declared.unsupported.Protection.TheVariants.{Machine, Ssv}

abbrev pub exclusive_value : Exclusive → Value exclusive
exclusive_value Plain = inl tt
exclusive_value WithAttributes = inr (inl tt)

abbrev pub other_claim_value : OtherClaim → Value other_claim
other_claim_value Previous = inl tt
other_claim_value DelegateCurrent = inr (inl tt)
other_claim_value DelegatePrevious = inr (inr (inl tt))
other_claim_value DelegateCurrentByHandle = inr (inr (inr (inl tt)))
other_claim_value DelegatePreviousByHandle = inr (inr (inr (inr (inl tt))))

abbrev pub protection_value : Protection → Value protection
protection_value Machine = inl tt
protection_value Ssv = inr (inl tt)
