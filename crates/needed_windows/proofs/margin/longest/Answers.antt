use Rattle.std.proofs.Common.{length, arith}
use Rattle.std.specs.Prelude.{flat_map}
use Rattle.std.proofs.lemmas.List.Elements.{All-head, All-tail}
use Rattle.cal_model.specs.Ranges.Cost.{lengths}
use Rattle.override_merge.specs.Conversions.{tables_of}
use Rattle.override_merge.specs.ExpandableComponents.{IsExpandable}
use Rattle.needed_windows.proofs.LengthLemmas.{greatest-append}
use Rattle.needed_windows.proofs.margin.longest.Goals as goal

pub longest_of-requires : goal.longest_of-requires
longest_of-requires c = All-head (IsExpandable (length c.args.zones.now)) c.in-Some.component.now c.in-Some.behind.now (rw c.in-Some.ensures.cases.0 at c.components.invariant.left)

pub components-preserved : goal.components-preserved
components-preserved c =
    let first = c.in-Some.ensures.cases.0 in
    let zones = tables_of c.args.zones.now in
    let made = rw first at c.components.invariant.made in
    let parts = greatest-append (lengths zones c.in-Some.component.now) (flat_map (lengths zones) c.in-Some.behind.now) in
    let value = c.longest_of.ensures.value in
    let small = c.longest_of.ensures.small in
    let before = c.components.invariant.small in
    record {
      made = omega (arith, made, parts, value);
      small = omega (arith, small, before);
      left = All-tail (IsExpandable (length c.args.zones.now)) c.in-Some.component.now c.in-Some.behind.now (rw first at c.components.invariant.left);
    }
