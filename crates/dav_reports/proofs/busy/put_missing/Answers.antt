use Rattle.std.proofs.Common.{◌∙◌}
use Rattle.std.specs.Prelude.{All}
use Rattle.cal_model.specs.Instances.Rows.{rows_in}
use Rattle.cal_model.proofs.Words.AllLemmas.{All-everywhere, All-flat_map}
use Rattle.overlap_rules.specs.Bounds.{IsNearRow}
use Rattle.dav_reports.proofs.KeptObjects.{rows_near}
use Rattle.dav_reports.proofs.MissingWindows.{times_by_window}
use Rattle.dav_reports.proofs.busy.put_missing.Goals as goal

pub put_rows-requires-clause-near : goal.put_rows-requires-clause-near
put_rows-requires-clause-near g c =
    let object = c.args.object.now in
    let windows = c.args.windows.now in
    rw (c.as_slice.ensures, c.in_ok-rows.ensures.rows)
    (All-flat_map IsNearRow (rows_in object) windows (All-everywhere (λ window. All IsNearRow (rows_in object window)) (λ window. rows_near object c.requires.object window) windows))

pub returns-clause-times : goal.returns-clause-times
returns-clause-times g c =
    let found = c.as_slice.ensures ∙ c.in_ok-rows.ensures.rows in
    rw (found, times_by_window c.args.zone.now c.args.object.now c.args.windows.now) at c.put_rows.ensures
