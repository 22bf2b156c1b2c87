use Rattle.std.proofs.Common.{◌≡◌, List, true, false, ◌∷◌, [], sym, ◌∙◌, subst, rules, FitsSigned, w32, to_z-of_z}
use Rattle.std.specs.Prelude.{◌&&◌}
use Rattle.std.proofs.lemmas.Result.{on_ok_weaker}
use Rattle.cal_model.specs.Busy.BusyTimes.{BusyTime}
use Rattle.cal_model.specs.Reports.NeededWindows.{counts, is_stated_window}
use Rattle.freebusy.specs.Gathering.{Gathers}
use Rattle.freebusy.proofs.Gatherings.{Gathers-none}
use Rattle.dav_reports.proofs.OnlyRows.{only_near, only_times}
use Rattle.dav_reports.proofs.busy.put_needed.Goals as goal

pub put_row-requires-clause-near : goal.put_row-requires-clause-near
put_row-requires-clause-near g c = only_near c.args.object.now c.in-Some.row c.in-Some.window c.requires.object c.in-Some.ensures.rows

pub returns-then-is_needed-clause-times : goal.returns-then-is_needed-clause-times
returns-then-is_needed-clause-times g c =
    let object = c.args.object.now in
    let window = c.in-Some.window in
    let fits : FitsSigned w32 window = search rules in
    let needed : c.is_needed.result ≡ (is_stated_window window && counts object (c.args.range ∷ []) window) = simp to_z-of_z at c.is_needed.ensures in
    let times = only_times c.args.zone.now object (counts object (c.args.range ∷ [])) c.in-Some.row window true c.in-Some.ensures.rows (sym c.if-is_needed.true ∙ needed) in
    on_ok_weaker c.put_row.result (λ put. subst (λ (ts : List BusyTime). Gathers c.args.out.now c.put_row.new.out ts) (sym times) put) c.put_row.ensures

pub returns-else-is_needed-clause-times : goal.returns-else-is_needed-clause-times
returns-else-is_needed-clause-times g c =
    let object = c.args.object.now in
    let window = c.in-Some.window in
    let fits : FitsSigned w32 window = search rules in
    let needed : c.is_needed.result ≡ (is_stated_window window && counts object (c.args.range ∷ []) window) = simp to_z-of_z at c.is_needed.ensures in
    let times = only_times c.args.zone.now object (counts object (c.args.range ∷ [])) c.in-Some.row window false c.in-Some.ensures.rows (sym c.if-is_needed.false ∙ needed) in
    subst (λ (ts : List BusyTime). Gathers c.args.out.now c.args.out.now ts) (sym times) (Gathers-none c.args.out.now)
