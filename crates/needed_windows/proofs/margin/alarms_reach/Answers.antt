use Rattle.std.proofs.Common.{map, arith}
use Rattle.std.specs.Prelude.{flat_map}
use Rattle.cal_model.specs.declared.object.Component.{Component}
use Rattle.cal_model.specs.Ranges.Cost.{alarm_reach}
use Rattle.needed_windows.proofs.LengthLemmas.{greatest-append}
use Rattle.needed_windows.proofs.margin.alarms_reach.Goals as goal

pub components-preserved : goal.components-preserved
components-preserved c =
    let first = c.in-Some.ensures.cases.0 in
    let made = rw first at c.components.invariant.made in
    let parts = greatest-append (map alarm_reach c.in-Some.component.now.alarms) (flat_map (λ (x : Component). map alarm_reach x.alarms) c.in-Some.behind.now) in
    let value = rw c.as_slice.ensures at c.reach_of.ensures.value in
    let small = c.reach_of.ensures.small in
    let before = c.components.invariant.small in
    record {
      made = omega (arith, made, parts, value);
      small = omega (arith, small, before);
    }
