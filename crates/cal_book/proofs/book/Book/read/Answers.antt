use Rattle.std.proofs.Common.{ℕ, ◌+◌, ◌≤◌, sym, subst}
use Rattle.std.specs.Prelude.{ℤ}
use Rattle.cal_model.specs.History.Origins.{AreLive}
use Rattle.cal_model.specs.Pieces.PieceLists.{rows_at}
use Rattle.cal_book.specs.Answering.ReadingCost.{reading_cost}
use Rattle.cal_book.specs.Cores.{Core, directory_in, state_in}
use Rattle.cal_book.proofs.book.Book.read.Goals as goal

pub returns-clause-steps : goal.returns-clause-steps
returns-clause-steps g c origins live =
    subst (λ (core : Core). c.read.new.steps ≤ c.args.steps.now + reading_cost (λ (origin : ℕ) (window : ℤ). rows_at origin window core.work.pieces) origins (directory_in core) (state_in core) c.args.event.now)
    c.self.view_is
    (c.read.ensures.steps origins (subst (λ (core : Core). AreLive core.work.journal origins) (sym c.self.view_is) live))
