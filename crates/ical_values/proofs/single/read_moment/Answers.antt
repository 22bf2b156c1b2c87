use Rattle.std.proofs.Common.{Bool, Some, option_map, sym, ap, ◌∙◌}
use Rattle.cal_moment.specs.declared.stamp.Local.{Local}
use Rattle.cal_model.specs.Values.ValueTexts.{date_time_of, moment_of, utc_of_local}
use Rattle.cal_model.proofs.Values.ValueLaws.{date_time_of-SpellsDateTime}
use Rattle.cal_model.proofs.Values.ValuePlaces.{bad_date_time}
use Rattle.ical_values.proofs.ReadTexts.{bad_map}
use Rattle.ical_values.proofs.ReadLines.{no_value}
use Rattle.ical_values.proofs.single.read_moment.Goals as goal

pub returns-in-Ok-clause-ok : goal.returns-in-Ok-clause-ok
returns-in-Ok-clause-ok c =
    ap (option_map (λ (time : Local × Bool). utc_of_local time.0)) (date_time_of-SpellsDateTime c.args.text.now _ c.in-Ok.ensures.ok)
    ∙ ap (λ moment. Some moment) (sym c.moment_of_local.ensures)

pub returns-in-Err-clause-bad : goal.returns-in-Err-clause-bad
returns-in-Err-clause-bad c = bad_map (λ (time : Local × Bool). utc_of_local time.0) date_time_of c.args.text.now c.in-Err.fault.place (bad_date_time c.args.text.now c.in-Err.fault.place c.in-Err.ensures.err)

pub returns-in-Err-clause-outside : goal.returns-in-Err-clause-outside
returns-in-Err-clause-outside c = no_value moment_of c.args.text.now (bad_map (λ (time : Local × Bool). utc_of_local time.0) date_time_of c.args.text.now c.in-Err.fault.place (bad_date_time c.args.text.now c.in-Err.fault.place c.in-Err.ensures.err)).outside
