use Rattle.std.proofs.Common.{rules, ◌≡◌, ◌≤◌, ◌+◌, ◌∙◌, List, FitsSigned, w32, ap, subst}
use Rattle.std.specs.Prelude.{ℤ}
use Rattle.std.proofs.lemmas.Int.{to_z-of_z}
use Rattle.std.proofs.lemmas.Result.{IfOk-weaker}
use Rattle.cal_model.specs.declared.row.Row.{Row}
use Rattle.cal_model.specs.declared.stored.Stored.{Stored}
use Rattle.cal_model.specs.Instances.Rows.{rows_in}
use Rattle.cal_model.specs.Ranges.Cost.{cost}
use Rattle.cal_book.proofs.expanding.shared_rows.Goals as goal

pub returns-in_err-rows-clause-steps : goal.returns-in_err-rows-clause-steps
returns-in_err-rows-clause-steps g c =
    let claim = c.args.claim.now in
    let fits : FitsSigned w32 claim.window = search rules in
    let window = to_z-of_z w32 claim.window fits in
    subst (λ (stored : Stored). c.window_rows.new.steps ≤ c.args.steps.now + cost stored.object claim.window) c.deref.ensures
    (subst (λ window. c.window_rows.new.steps ≤ c.args.steps.now + cost c.deref.result.now.object window) window c.window_rows.ensures.steps)

pub returns-clause-steps : goal.returns-clause-steps
returns-clause-steps g c =
    let claim = c.args.claim.now in
    let fits : FitsSigned w32 claim.window = search rules in
    let window = to_z-of_z w32 claim.window fits in
    subst (λ (stored : Stored). c.window_rows.new.steps ≤ c.args.steps.now + cost stored.object claim.window) c.deref.ensures
    (subst (λ window. c.window_rows.new.steps ≤ c.args.steps.now + cost c.deref.result.now.object window) window c.window_rows.ensures.steps)

pub returns-clause-rows : goal.returns-clause-rows
returns-clause-rows g c =
    let claim = c.args.claim.now in
    let fits : FitsSigned w32 claim.window = search rules in
    let window = to_z-of_z w32 claim.window fits in
    let found = c.in_ok-rows.ensures.rows ∙ (ap (λ (w : ℤ). rows_in c.deref.result.now.object w) window ∙ ap (λ (stored : Stored). rows_in stored.object claim.window) c.deref.ensures) in
    IfOk-weaker c.new.result (λ (rows : List Row). rows ≡ c.in_ok-rows.rows) _ (λ rows is. is ∙ found) c.new.ensures
