use Rattle.std.proofs.Common.{◌≡◌, Bool, ap, ◌∙◌}
use Rattle.std.specs.Prelude.{filter}
use Rattle.std.proofs.lemmas.Result.{IfOk-weaker}
use Rattle.cal_model.specs.declared.row.Row.{Row}
use Rattle.cal_model.specs.Instances.Rows.{rows as rows_of}
use Rattle.cal_model.specs.Selections.ShownData.{shown as shown_spec, shown_of_object}
use Rattle.cal_model.specs.Selections.EnoughRows.{AreEnoughToShow}
use Rattle.cal_model.proofs.Selections.ShownDataLaws.{shown-enough_rows}
use Rattle.expand_limit.proofs.calendar_data.shown.Goals as goal

pub returns-clause-whole : goal.returns-clause-whole
returns-clause-whole c = IfOk-weaker c.shown_over.result (λ text. text ≡ shown_spec c.args.octets.now c.args.object.now c.as_slice.result.now c.args.select.now c.args.zone.now)
    (λ text. (keep : Row → Bool) → c.args.rows.now ≡ filter keep (rows_of c.args.object.now) → AreEnoughToShow c.args.object.now c.args.zone.now keep (rows_of c.args.object.now) c.args.select.now.recur → text ≡ shown_of_object c.args.octets.now c.args.object.now c.args.select.now c.args.zone.now)
    (λ text is keep some enough.
    is ∙ ap (λ rows. shown_spec c.args.octets.now c.args.object.now rows c.args.select.now c.args.zone.now) (c.as_slice.ensures ∙ some)
    ∙ shown-enough_rows c.args.octets.now c.args.object.now c.args.select.now c.args.zone.now keep (rows_of c.args.object.now) enough) c.shown_over.ensures
