use Rattle.std.proofs.Common.{length, arith}
use Rattle.std.proofs.lemmas.List.Elements.{All-head, All-tail}
use Rattle.override_merge.specs.ExpandableComponents.{IsConvertiblePeriod}
use Rattle.override_merge.proofs.StampLemmas.{own_start_convertible}
use Rattle.needed_windows.proofs.margin.longest_of.Goals as goal

pub extent_length-longest-requires-clause-start : goal.extent_length-longest-requires-clause-start
extent_length-longest-requires-clause-start c = rw c.own_start.ensures (own_start_convertible (length c.args.zones.now) c.args.component.now c.requires.row)

pub period_length-requires : goal.period_length-requires
period_length-requires c = All-head (IsConvertiblePeriod (length c.args.zones.now)) c.in-Some.period.now c.in-Some.behind.now (rw c.in-Some.ensures.cases.0 at c.periods.invariant.left)

pub periods-preserved : goal.periods-preserved
periods-preserved c =
    let first = c.in-Some.ensures.cases.0 in
    let made = rw first at c.periods.invariant.made in
    let value = c.period_length.ensures.value in
    let small = c.period_length.ensures.small in
    let before = c.periods.invariant.small in
    record {
      made = omega (arith, made, value);
      small = omega (arith, small, before);
      left = All-tail (IsConvertiblePeriod (length c.args.zones.now)) c.in-Some.period.now c.in-Some.behind.now (rw first at c.periods.invariant.left);
    }
