use Rattle.cal_book.proofs.LegalLemmas.{legal_told}
use Rattle.cal_book.proofs.laws.journals_are_told.Goals as goal

pub returns : goal.returns
returns c = legal_told
