use Rattle.nfs_client.proofs.Digits.{entry_again}
use Rattle.nfs_client.proofs.entry_text.an_entry_as_text_is_read.Goals as goal

pub returns : goal.returns
returns c = entry_again
