use Rattle.std.proofs.Common.{◌∙◌, map}
use Rattle.cal_model.specs.declared.row.Row.{Row}
use Rattle.cal_model.proofs.Instances.RisingLists.{ascending-rising}
use Rattle.override_merge.specs.Conversions.{tables_of}
use Rattle.override_merge.specs.NamedStarts.{days_in, named_beside, values_in}
use Rattle.rrule_sets.proofs.GovernorLemmas.{all_stand_in}
use Rattle.rrule_sets.proofs.governors.with_governed.Goals as goal

pub put_governed-requires-clause-values : goal.put_governed-requires-clause-values
put_governed-requires-clause-values c =
    rw c.in_ok-names.ensures.values (ascending-rising (values_in (named_beside (tables_of c.args.zones.now) c.args.ids c.as_slice.result.now)))

pub put_governed-requires-clause-days : goal.put_governed-requires-clause-days
put_governed-requires-clause-days c =
    rw c.in_ok-names.ensures.days (ascending-rising (days_in (named_beside (tables_of c.args.zones.now) c.args.ids c.as_slice.result.now)))

pub returns : goal.returns
returns c =
    let object = c.args.object.now in
    let named = rw (c.requires.zones, c.as_slice.ensures) at c.in_ok-names.ensures in
    let all = map (λ (r : Row). r.id) c.args.rows.now in
    let put = rw (c.requires.zones, c.new-out.ensures, c.as_slice-2.ensures) at c.in_ok-put_governed.ensures in
    put ∙ all_stand_in object c.args.ids all c.in_ok-names.names c.in_ok-governors.governors named c.in_ok-governors.ensures.held c.args.rows.now
