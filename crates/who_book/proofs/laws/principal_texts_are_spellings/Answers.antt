use Rattle.who_book.proofs.Spelled.{principal_spells}
use Rattle.who_book.proofs.laws.principal_texts_are_spellings.Goals as goal

pub returns : goal.returns
returns c = principal_spells
