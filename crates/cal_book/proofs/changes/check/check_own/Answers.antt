use Rattle.std.proofs.Common.{ap}
use Rattle.cal_model.specs.Refusals.SharedRefusals.{makes_or_asks}
use Rattle.cal_book.specs.Showing.ShownStates.{shown_directory, shown_state}
use Rattle.cal_book.proofs.Checking.PassedLemmas.{all_there}
use Rattle.cal_book.proofs.changes.check.check_own.Goals as goal

pub delete-requires : goal.delete-requires
delete-requires c = record {
  there = all_there (shown_directory c.args.view.now) (shown_state c.args.view.now) c.args.scene.now c.args.request.now c.requires.passed c.requires.changing (ap makes_or_asks c.in-Delete.is);
}
