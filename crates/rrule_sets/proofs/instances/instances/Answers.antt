use Rattle.std.proofs.Common.{◌≡◌, ◌∙◌, sym, subst, ap, List, ℤ, map}
use Rattle.std.specs.Prelude.{All, AllPairs, IfOk, filter, length, not}
use Rattle.cal_model.specs.declared.row.Row.{Row}
use Rattle.cal_moment.specs.declared.stamp.Stamp.{Stamp}
use Rattle.cal_model.specs.Instances.Alignment.{align, reading_of}
use Rattle.cal_model.specs.Instances.Starts.{own_start}
use Rattle.cal_model.proofs.Instances.RisingLists.{IsBelow, ascending-rising}
use Rattle.override_merge.specs.Conversions.{tables_of}
use Rattle.override_merge.specs.NamedStarts.{days_in, has_name, values_in}
use Rattle.override_merge.proofs.StampLemmas.{convertible_some, own_start_convertible}
use Rattle.rrule_sets.specs.AskedStarts.{exceptions_of, plain_of, row_by}
use Rattle.rrule_sets.specs.DigitRanges.{starts_in}
use Rattle.rrule_sets.proofs.DateStarts.{IsNearRow, short_tables}
use Rattle.rrule_sets.proofs.InstanceLemmas.{instances_found}
use Rattle.rrule_sets.proofs.NearLemmas.{asked_near}
use Rattle.rrule_sets.proofs.instances.instances.Goals as goal

pub component_exceptions-requires-clause-stamp : goal.component_exceptions-requires-clause-stamp
component_exceptions-requires-clause-stamp g c =
    (convertible_some (length c.args.zones.now) (own_start c.args.component.now) c.args.stamp c.requires.own (own_start_convertible (length c.args.zones.now) c.args.component.now c.requires.component.row)).zone

pub rows_at-requires-clause-stamp : goal.rows_at-requires-clause-stamp
rows_at-requires-clause-stamp g c =
    convertible_some (length c.args.zones.now) (own_start c.args.component.now) c.args.stamp c.requires.own (own_start_convertible (length c.args.zones.now) c.args.component.now c.requires.component.row)

pub rows_at-requires-clause-plain : goal.rows_at-requires-clause-plain
rows_at-requires-clause-plain g c = subst (AllPairs IsBelow) (sym c.in_ok-asked.ensures.plain) (ascending-rising (filter (starts_in (tables_of c.args.zones.now) c.args.stamp c.args.range) (plain_of (tables_of c.args.zones.now) c.args.stamp c.args.component.now)))

pub rows_at-requires-clause-values : goal.rows_at-requires-clause-values
rows_at-requires-clause-values g c = subst (AllPairs IsBelow) (sym c.in_ok-excepted.ensures.values) (ascending-rising (values_in (map (λ (x : Stamp). align (tables_of c.args.zones.now) x c.args.stamp) (exceptions_of c.args.component.now))))

pub rows_at-requires-clause-days : goal.rows_at-requires-clause-days
rows_at-requires-clause-days g c = subst (AllPairs IsBelow) (sym c.in_ok-excepted.ensures.days) (ascending-rising (days_in (map (λ (x : Stamp). align (tables_of c.args.zones.now) x c.args.stamp) (exceptions_of c.args.component.now))))

pub rows_at-requires-clause-near : goal.rows_at-requires-clause-near
rows_at-requires-clause-near g c =
    let zones = tables_of c.args.zones.now in
    let written = (convertible_some (length c.args.zones.now) (own_start c.args.component.now) c.args.stamp c.requires.own (own_start_convertible (length c.args.zones.now) c.args.component.now c.requires.component.row)).near in
    let near = asked_near zones c.args.stamp c.args.component.now (length c.args.zones.now) (short_tables c.args.zones.now) c.requires.component c.requires.own written c.args.range c.in_ok-asked.asked.plain c.in_ok-asked.asked.periods c.in_ok-asked.ensures.plain c.in_ok-asked.ensures.periods in
    subst (All IsNearRow) (sym (c.as_slice.ensures ∙ c.in_ok-starts.ensures)) near

pub returns-clause-rows : goal.returns-clause-rows
returns-clause-rows g c =
    let zones = tables_of c.args.zones.now in
    let asked = c.in_ok-asked.asked in
    let made : List ℤ → List Row = λ starts. map (row_by zones c.args.stamp c.args.component.now.extent asked.plain asked.periods c.args.number) (filter (λ r. not (has_name (reading_of zones c.args.stamp) r c.in_ok-excepted.excepted)) starts) in
    let found = instances_found zones c.args.stamp c.args.component.now c.args.number c.args.range asked.plain asked.periods c.in_ok-excepted.excepted c.in_ok-asked.ensures.plain c.in_ok-asked.ensures.periods c.in_ok-excepted.ensures c.requires.own in
    subst (λ (xs : List Row). IfOk c.rows_at.result (λ rows. rows ≡ xs)) (ap made (c.as_slice.ensures ∙ c.in_ok-starts.ensures) ∙ found) c.rows_at.ensures
