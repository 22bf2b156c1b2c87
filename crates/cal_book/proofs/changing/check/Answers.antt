use Rattle.std.proofs.Common.{subst}
use Rattle.cal_book.specs.Showing.ShownStates.{shown_directory}
use Rattle.cal_book.specs.Checking.Checks.{IsChecked}
use Rattle.cal_book.specs.Keeping.KeptHistories.{state_in}
use Rattle.cal_book.proofs.changing.check.Goals as goal

pub returns-clause-checked : goal.returns-clause-checked
returns-clause-checked c =
    subst (λ d. IsChecked d (state_in c.args.history.now) c.args.event.now c.check_change-checked.result) c.view-view.ensures.directory
    (subst (λ s. IsChecked (shown_directory c.view-view.result) s c.args.event.now c.check_change-checked.result) c.view-view.ensures.state c.check_change-checked.ensures.checked)
