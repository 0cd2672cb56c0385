use Rattle.nfs_types.specs.Attributes.{all_words}
use Rattle.nfs_types.proofs.Tables.{shared}
use Rattle.nfs_types.proofs.laws.given_is_asked_and_supported.Goals as goal

pub returns : goal.returns
returns c = λ asked n. shared asked all_words n
