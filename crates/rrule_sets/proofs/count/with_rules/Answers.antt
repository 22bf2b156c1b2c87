use Rattle.std.proofs.Common.{◌≡◌, ◌++◌, false}
use Rattle.std.specs.Prelude.{filter, flat_map}
use Rattle.std.proofs.lemmas.List.Elements.{All-head, All-tail}
use Rattle.cal_model.specs.declared.rule.Rule.{Rule}
use Rattle.cal_model.specs.Instances.Starts.{ascending}
use Rattle.cal_model.specs.Objects.ObjectFacts.{IsServed}
use Rattle.cal_model.specs.Recurrence.NextPassing.{is_fine}
use Rattle.cal_model.specs.Recurrence.RuleBounds.{IsUsable}
use Rattle.override_merge.specs.Conversions.{tables_of}
use Rattle.rrule_sets.specs.CountedRows.{all_later, is_left}
use Rattle.rrule_sets.proofs.CountLemmas.{rule_counted, rules_too_many}
use Rattle.rrule_sets.proofs.count.with_rules.Goals as goal

pub with_rule-requires-clause-usable : goal.with_rule-requires-clause-usable
with_rule-requires-clause-usable g c =
    let first = c.in-Some.ensures.cases.0 in
    All-head IsUsable c.in-Some.rule.now c.in-Some.behind.now (rw first at c.rules.invariant.usable)

pub returns-in_default-2 : goal.returns-in_default-2
returns-in_default-2 g c =
    let first = c.in-Some.ensures.cases.0 in
    let zones = tables_of c.args.zones.now in
    let left = is_left zones c.args.stamp c.args.taken.now in
    let whole = ascending (c.args.starts ++ filter left (flat_map (all_later zones c.args.stamp) c.args.rules.now)) in
    rules_too_many c.args.room left c.rules.starts (all_later zones c.args.stamp c.in-Some.rule.now) (flat_map (all_later zones c.args.stamp) c.in-Some.behind.now) whole
    (rw c.in_default-2.is at c.in_ok-kept.ensures) (rw first at c.rules.invariant.made)

pub rules-preserved : goal.rules-preserved
rules-preserved g c =
    let first = c.in-Some.ensures.cases.0 in
    let zones = tables_of c.args.zones.now in
    let left = is_left zones c.args.stamp c.args.taken.now in
    let whole = ascending (c.args.starts ++ filter left (flat_map (all_later zones c.args.stamp) c.args.rules.now)) in
    record {
      made = rule_counted left c.rules.starts c.in-Some-2.kept (all_later zones c.args.stamp c.in-Some.rule.now) (flat_map (all_later zones c.args.stamp) c.in-Some.behind.now) whole
          (rw c.in-Some-2.is at c.in_ok-kept.ensures) (rw first at c.rules.invariant.made);
      served = All-tail (λ (rule : Rule). IsServed c.args.stamp) c.in-Some.rule.now c.in-Some.behind.now (rw first at c.rules.invariant.served);
      usable = All-tail IsUsable c.in-Some.rule.now c.in-Some.behind.now (rw first at c.rules.invariant.usable);
      coarse = All-tail (λ (rule : Rule). is_fine rule.freq ≡ false) c.in-Some.rule.now c.in-Some.behind.now (rw first at c.rules.invariant.coarse);
    }
