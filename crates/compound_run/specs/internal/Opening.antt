-- How the code opens a file.
use Rattle.std.specs.Prelude.{ℕ, ◌==◌, if◌then◌else◌, bit_or}
use Rattle.nfs_ops.specs.Parts.{Claim, ByName, ByHandle}
use Rattle.compound_run.specs.declared.opens.Open.{Open}
use Rattle.compound_run.specs.Operations.Open.{risen}

-- the open after an upgrade, if it has this number
abbrev pub reopened_by : {A : Type 0} → ℕ → ℕ → Open A → Open A
reopened_by number access o =
    if o.number == number then record o { access = bit_or o.access access; seqid = risen o.seqid } else o

-- a condition for an OPEN by name alone
abbrev pub IfByName : Claim → Type 0 → Type 0
IfByName (ByName name) P = P
IfByName ByHandle P = Unit {0}
