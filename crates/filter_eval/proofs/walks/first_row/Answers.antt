use Rattle.cal_model.specs.declared.row.Row.{Row}
use Rattle.filter_eval.specs.Places.{row_keys}
use Rattle.filter_eval.proofs.SkippedItems.{kept_from}
use Rattle.filter_eval.proofs.walks.first_row.Goals as goal

pub returns-in-Some : goal.returns-in-Some
returns-in-Some c =
    let rows = c.args.subject.now.rows.now in
    kept_from (λ (row : Row). row.component) rows c.args.number 0 c.first.result (c.first.ensures (row_keys rows) (rw c.in-Some.is at c.requires.row_links))
