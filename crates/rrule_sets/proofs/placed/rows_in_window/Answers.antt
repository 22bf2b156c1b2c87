use Rattle.std.proofs.Common.{◌≡◌, ◌∙◌, ap, map, subst, List, rules, to_z, of_z, w64}
use Rattle.std.specs.Prelude.{AllPairs, IfOk}
use Rattle.std.proofs.lemmas.List.Kept.{AllPairs-filter}
use Rattle.cal_model.specs.declared.row.Row.{Row}
use Rattle.cal_model.specs.Instances.Rows.{in_order}
use Rattle.rrule_sets.specs.declared.placed.Placed.{Placed}
use Rattle.rrule_sets.specs.PlacedRows.{HasNoLaterWindow, rows_at}
use Rattle.rrule_sets.proofs.PlacedLemmas.{found_in_window}
use Rattle.rrule_sets.proofs.placed.rows_in_window.Goals as goal

pub placed_to-its-requires : goal.placed_to-its-requires
placed_to-its-requires c = rw c.placed_from.ensures (AllPairs-filter HasNoLaterWindow _ c.args.placed.now c.requires)

pub returns : goal.returns
returns c =
    let same : to_z w64 (of_z w64 c.args.window) ≡ c.args.window = search rules in
    let its = found_in_window c.args.window c.args.placed.now c.placed_from.result.now c.placed_to-its.result.now (rw same at c.placed_from.ensures) (rw same at c.placed_to-its.ensures) in
    let rows : c.in_ok-rows.rows ≡ rows_at c.args.window c.args.placed.now = c.in_ok-rows.ensures ∙ ap (map (λ (p : Placed). p.row)) its in
    subst (λ (xs : List Row). IfOk c.put_in_order.result (λ ordered. ordered ≡ in_order xs)) rows c.put_in_order.ensures
