use Rattle.std.proofs.Common.{◌≡◌, cond, ◌∷◌, [], ◌++◌, sym, ap, ◌∙◌, rules, FitsSigned, w32, to_z-of_z}
use Rattle.std.specs.Prelude.{◌&&◌}
use Rattle.cal_model.specs.Reports.NeededWindows.{counts, is_stated_window}
use Rattle.dav_reports.proofs.OnlyRows.{only_needed}
use Rattle.dav_reports.proofs.rows.only_rows.Goals as goal
use Rattle.dav_reports.proofs.rows.only_rows.Goals.{then-is_needed+in_ok-push, else-is_needed}

pub returns-clause-rows : goal.returns-clause-rows
returns-clause-rows c =
    let row = c.in-Some.row in
    let window = c.in-Some.window in
    let fits : FitsSigned w32 window = search rules in
    let needed : c.is_needed.result ≡ (is_stated_window window && counts c.args.object.now c.args.ranges.now window) = simp to_z-of_z at c.is_needed.ensures in
    let are = only_needed c.args.object.now c.args.ranges.now row window c.is_needed.result c.in-Some.ensures.rows c.in-Some.ensures.undated needed in
    elim c.if-is_needed.branch [
      | then-is_needed+in_ok-push w ↦
          w.rows-is ∙ w.in_ok-push.ensures.ok ∙ ap (λ rs. rs ++ row ∷ []) c.new-rows.ensures ∙ ap (λ b. cond b (row ∷ []) []) (sym w.if-is_needed.true) ∙ are
      | else-is_needed w ↦ w.rows-is ∙ c.new-rows.ensures ∙ ap (λ b. cond b (row ∷ []) []) (sym w.if-is_needed.false) ∙ are
    ]
