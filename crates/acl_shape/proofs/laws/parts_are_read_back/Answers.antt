use Rattle.acl_shape.proofs.Parts.{dacl-combined, sacl-combined}
use Rattle.acl_shape.proofs.laws.parts_are_read_back.Goals as goal

pub returns : goal.returns
returns c = record { dacl = dacl-combined; sacl = sacl-combined }
