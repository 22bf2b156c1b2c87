use Rattle.std.proofs.Common.{◌≡◌, ◌∙◌, ◌++◌, List, [], ℤ, ap, map, sym}
use Rattle.std.specs.Prelude.{filter, flat_map, if◌then◌else◌}
use Rattle.cal_model.specs.Instances.Starts.{ascending, date_start, is_date}
use Rattle.rrule_sets.specs.AskedStarts.{later_starts, plain_of}
use Rattle.rrule_sets.specs.DigitRanges.{starts_in}
use Rattle.rrule_sets.specs.PeriodSpans.{period_span, span_starts_in}
use Rattle.rrule_sets.proofs.AskedLemmas.{on_ok_both}
use Rattle.override_merge.specs.Conversions.{tables_of}
use Rattle.rrule_sets.proofs.InstanceLemmas.{no_spans_asked, plain_alone_asked, plain_asked}
use Rattle.rrule_sets.proofs.NearLemmas.{recurring_start, served_start, value_of_served}
use Rattle.rrule_sets.proofs.instances.put_others.Goals as goal

pub put_recurring-requires-clause-start : goal.put_recurring-requires-clause-start
put_recurring-requires-clause-start g c = recurring_start c.args.component.now c.args.stamp (sym c.recurs.ensures ∙ c.if-recurs.true) c.requires.start

pub returns-else-recurs-clause-plain : goal.returns-else-recurs-clause-plain
returns-else-recurs-clause-plain g c = plain_alone_asked (tables_of c.args.zones.now) c.args.stamp c.args.range c.args.component.now c.args.plain.now (sym c.recurs.ensures ∙ c.if-recurs.false) c.requires.own

pub returns-else-recurs-clause-periods : goal.returns-else-recurs-clause-periods
returns-else-recurs-clause-periods g c = no_spans_asked (tables_of c.args.zones.now) c.args.stamp c.args.range c.args.component.now c.args.periods.now (sym c.recurs.ensures ∙ c.if-recurs.false) c.requires.empty

pub returns-then-recurs-clause-plain : goal.returns-then-recurs-clause-plain
returns-then-recurs-clause-plain g c =
    let zones = tables_of c.args.zones.now in
    let stamp = c.args.stamp in
    let component = c.args.component.now in
    let range = c.args.range in
    let it_does = sym c.recurs.ensures ∙ c.if-recurs.true in
    let value = value_of_served zones stamp (served_start component.start stamp (recurring_start component stamp it_does c.requires.start) c.requires.component.served) in
    let spans_made = c.put_recurring.new.periods ≡ c.args.periods.now ++ filter (span_starts_in zones stamp range) (map (period_span zones stamp) component.periods) in
    let plain_made = c.put_recurring.new.plain ≡ c.args.plain.now ++ flat_map (later_starts zones stamp range) component.rules ++ filter (starts_in zones stamp range) (map (date_start zones stamp) component.dates) ++ (if is_date stamp then map (λ (period : ℤ × ℤ). period.0) c.put_recurring.new.periods else []) in
    on_ok_both spans_made plain_made (ascending c.put_recurring.new.plain ≡ ascending (filter (starts_in zones stamp range) (plain_of zones stamp component))) c.put_recurring.result
    (λ spans plain. plain_asked zones stamp range component c.args.plain.now c.put_recurring.new.plain c.put_recurring.new.periods value it_does c.requires.own (spans ∙ ap (λ (xs : List (ℤ × ℤ)). xs ++ filter (span_starts_in zones stamp range) (map (period_span zones stamp) component.periods)) c.requires.empty) plain)
    c.put_recurring.ensures.periods c.put_recurring.ensures.plain
