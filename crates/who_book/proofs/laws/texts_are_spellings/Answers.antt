use Rattle.who_book.proofs.Spelled.{spells}
use Rattle.who_book.proofs.laws.texts_are_spellings.Goals as goal

pub returns : goal.returns
returns c = spells
