use Rattle.std.proofs.Common.{rules, FitsSigned, w64, to_z-of_z}
use Rattle.std.specs.Prelude.{codes, decimal}
use Rattle.std.proofs.lemmas.Result.{on_ok_weaker}
use Rattle.ics_tool.specs.RowTexts.{moment_text}
use Rattle.ics_tool.proofs.LineSteps.{row_put}
use Rattle.ics_tool.proofs.lines.put_row.Goals as goal

pub returns : goal.returns
returns c =
    let row = c.args.row.now in
    let id : FitsSigned w64 row.id = search rules in
    let start : FitsSigned w64 row.start = search rules in
    let end : FitsSigned w64 row.end = search rules in
    let first = simp to_z-of_z at c.in_ok-put_word.ensures in
    let second = simp to_z-of_z at c.in_ok-put_word-2.ensures in
    let third = simp to_z-of_z at c.in_ok-put_word-3.ensures in
    on_ok_weaker c.push.result
    (λ e. row_put c.args.out.now c.put_word.new.out c.put_word-2.new.out c.put_word-3.new.out c.put_number.new.out c.push.new.self (moment_text row.id_kind row.id) (moment_text row.kind row.start) (moment_text row.kind row.end) (decimal row.component) (codes " ") (codes "\n") first second third c.in_ok-put_number.ensures e)
    c.push.ensures.ok
