use Rattle.cal_book.proofs.Checking.DeletionLemmas.{deletion}
use Rattle.cal_book.proofs.changes.delete.delete.Goals as goal

pub returns-clause-checked : goal.returns-clause-checked
returns-clause-checked c directory state request how passed =
    deletion directory state c.args.scene.now request passed how c.place_of-place.result (c.place_of-place.ensures.place directory state request passed)
