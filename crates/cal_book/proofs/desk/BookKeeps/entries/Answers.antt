use Rattle.cal_model.specs.State.ServerState.{directory_of}
use Rattle.cal_book.proofs.LegalLemmas.{legal_is_told}
use Rattle.cal_book.proofs.desk.BookKeeps.entries.Goals as goal

pub returns-clause-lawful : goal.returns-clause-lawful
returns-clause-lawful c = legal_is_told (directory_of c.args.self.now.users) c.args.self.now.work.journal c.entries.ensures.kept.legal
