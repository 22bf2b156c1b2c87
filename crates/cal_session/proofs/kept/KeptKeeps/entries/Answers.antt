use Rattle.std.proofs.Common.{◌≡◌, true, subst}
use Rattle.cal_model.specs.State.ServerState.{directory_of}
use Rattle.cal_book.specs.LegalJournals.{is_legal}
use Rattle.cal_session.specs.KeptBooks.{KeptState}
use Rattle.cal_session.proofs.kept.KeptKeeps.entries.Goals as goal

pub returns-clause-lawful : goal.returns-clause-lawful
returns-clause-lawful g c =
    subst (λ (k : KeptState _). is_legal (directory_of k.book.users) k.book.work.journal ≡ true) c.self.view_is
    (c.journals_are_told.ensures.told (directory_of c.self.inside.book.users) c.self.inside.book.work.journal c.entries.ensures.kept.legal)
