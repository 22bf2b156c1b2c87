use Rattle.std.proofs.Common.{rules, map, FitsSigned, w64, to_z-of_z}
use Rattle.cal_moment.specs.declared.stamp.Period.{Period}
use Rattle.cal_model.specs.Instances.Alignment.{value_of}
use Rattle.cal_model.specs.Instances.Starts.{date_start}
use Rattle.rrule_sets.specs.CountedRows.{dates_in, is_left, periods_in}
use Rattle.std.specs.Prelude.{length}
use Rattle.override_merge.specs.Conversions.{IsConvertible, tables_of}
use Rattle.override_merge.specs.ExpandableComponents.{IsConvertiblePeriod}
use Rattle.rrule_sets.proofs.CountLemmas.{dates_kept, others_made, periods_kept}
use Rattle.rrule_sets.proofs.count.other_starts.Goals as goal

pub put_left_dates-requires-clause-dates : goal.put_left_dates-requires-clause-dates
put_left_dates-requires-clause-dates c = rw c.dates_of.ensures (dates_kept (IsConvertible (length c.args.zones.now)) c.args.component.now c.requires.component.dates)

pub put_left_periods-requires-clause-periods : goal.put_left_periods-requires-clause-periods
put_left_periods-requires-clause-periods c = rw c.periods_of.ensures (periods_kept (IsConvertiblePeriod (length c.args.zones.now)) c.args.component.now c.requires.component.periods)

pub returns : goal.returns
returns c =
    let zones = tables_of c.args.zones.now in
    let stamp = c.args.stamp in
    let component = c.args.component.now in
    let fits : FitsSigned w64 c.value_of.result = search (rules, c.value_of.type_inv) in
    let own = rw c.value_of.ensures.value at (simp to_z-of_z at c.in_ok-put_left.ensures) in
    others_made (is_left zones stamp c.args.taken.now) (value_of zones stamp) (map (date_start zones stamp) (dates_in component)) (map (λ (p : Period). date_start zones stamp p.start) (periods_in component))
    c.new-starts.result c.put_left.new.out c.put_left_dates.new.out c.put_left_periods.new.out
    c.new-starts.ensures own (rw c.dates_of.ensures at c.in_ok-put_left_dates.ensures) (rw c.periods_of.ensures at c.in_ok-put_left_periods.ensures)
