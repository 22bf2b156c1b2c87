use Rattle.std.proofs.Common.{◌≡◌, ◌∙◌, sym, subst, rules, List, FitsSigned, w32, to_z-of_z}
use Rattle.std.specs.Prelude.{IfOk}
use Rattle.cal_model.specs.declared.row.Row.{Row}
use Rattle.override_merge.proofs.ReadObjects.{HasConvertibleRows-read}
use Rattle.rrule_sets.proofs.OnceLemmas.{window_once}
use Rattle.rrule_sets.proofs.ReadLemmas.{HasRowsToFind-read}
use Rattle.rrule_sets.proofs.WindowLemmas.{rows_in-none}
use Rattle.rrule_sets.proofs.window.window_rows.Goals as goal

pub rows_beside-requires-clause-object : goal.rows_beside-requires-clause-object
rows_beside-requires-clause-object g c = HasRowsToFind-read c.args.object.now c.requires.read c.requires.few c.requires.coarse

pub local_times_of-requires : goal.local_times_of-requires
local_times_of-requires g c = rw c.as_slice.ensures (HasConvertibleRows-read c.args.object.now c.requires.read c.requires.few).zones

pub returns-in_default-ids_start-clause-rows : goal.returns-in_default-ids_start-clause-rows
returns-in_default-ids_start-clause-rows g c = c.new.ensures ∙ sym (rows_in-none c.args.object.now c.args.window (sym c.in_default-ids_start.is ∙ c.ids_start.ensures))

pub returns-in-Some-clause-rows : goal.returns-in-Some-clause-rows
returns-in-Some-clause-rows g c =
    let fits : FitsSigned w32 c.args.window = search rules in
    let its_fits : FitsSigned w32 c.in-Some.its = search (rules, rw c.in-Some.is at c.only_row.type_inv) in
    let made = simp to_z-of_z at c.row_in_windows.ensures in
    subst (λ (xs : List Row). IfOk c.row_in_windows.result (λ all. all ≡ xs)) (window_once c.args.object.now c.in-Some.row c.in-Some.its c.args.window c.in-Some.ensures.rows) made
