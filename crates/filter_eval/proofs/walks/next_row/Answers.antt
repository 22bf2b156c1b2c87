use Rattle.std.proofs.Common.{◌+◌, arith}
use Rattle.cal_model.specs.declared.row.Row.{Row}
use Rattle.filter_eval.specs.Places.{row_keys}
use Rattle.filter_eval.proofs.SkippedItems.{kept_from, next_of_item}
use Rattle.filter_eval.proofs.walks.next_row.Goals as goal

pub returns-then-row-number-clause-rows : goal.returns-then-row-number-clause-rows
returns-then-row-number-clause-rows c =
    let rows = c.args.subject.now.rows.now in
    kept_from (λ (row : Row). row.component) rows c.args.number (c.args.place + 1) c.next.result
    (next_of_item (λ (row : Row). row.component) rows c.args.number c.args.place c.next.result c.args.row.now c.requires.row c.if-row-number.true (c.next.ensures (row_keys rows) c.requires.links))

pub returns-then-row-number-clause-ahead : goal.returns-then-row-number-clause-ahead
returns-then-row-number-clause-ahead c =
    let rows = c.args.subject.now.rows.now in
    let next = next_of_item (λ (row : Row). row.component) rows c.args.number c.args.place c.next.result c.args.row.now c.requires.row c.if-row-number.true (c.next.ensures (row_keys rows) c.requires.links) in
    omega (arith, next.ahead)
