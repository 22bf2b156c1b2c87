use Rattle.std.proofs.Common.{◌≡◌, ℕ, ◌+◌, ◌++◌, List, ℤ, map, false}
use Rattle.std.specs.Prelude.{flat_map, sum, count_by}
use Rattle.cal_model.specs.Recurrence.RecurrenceSet.{every_moment}
use Rattle.cal_model.specs.Values.LocalTimes.{moment_of_local}
use Rattle.cal_model.specs.Walks.Budgets.{last_period, passes_by}
use Rattle.cal_model.specs.Walks.Clocks.{reading_by}
use Rattle.cal_model.specs.Walks.KeptMoments.{starts_between}
use Rattle.std.proofs.lemmas.List.Elements.{All-head, All-tail}
use Rattle.cal_model.specs.declared.rule.Rule.{Rule}
use Rattle.cal_model.specs.Recurrence.NextPassing.{is_fine}
use Rattle.cal_model.specs.Recurrence.RuleBounds.{IsUsable}
use Rattle.rrule_sets.proofs.AskedLemmas.{more, counted_more}
use Rattle.rrule_sets.proofs.later.put_rules.Goals as goal

pub put_rule-requires-clause-rule : goal.put_rule-requires-clause-rule
put_rule-requires-clause-rule g c =
    let first = c.in-Some.ensures.cases.0 in
    All-head IsUsable c.in-Some.rule.now c.in-Some.behind.now (rw first at c.rules.invariant.usable)

pub rules-preserved : goal.rules-preserved
rules-preserved g c =
    let first = c.in-Some.ensures.cases.0 in
    let counted = rw first at c.rules.invariant.counted in
    let steps = c.put_rule.ensures.steps in
    let given : Rule → List ℤ = λ rule. starts_between rule (moment_of_local c.args.start) (reading_by c.args.clock.now) (moment_of_local c.args.low) (moment_of_local c.args.high) in
    let most : Rule → ℕ = λ rule. 1 + count_by (passes_by rule (moment_of_local c.args.start) (reading_by c.args.clock.now).dated (last_period rule (moment_of_local c.args.high))) every_moment in
    record {
      made = rw c.in_ok-put_rule.ensures.starts (more c.rules.out (given c.in-Some.rule.now) (flat_map given c.in-Some.behind.now) (c.args.out.now ++ flat_map given c.args.rules.now) (rw first at c.rules.invariant.made));
      counted = counted_more c.rules.steps c.put_rule.new.steps (most c.in-Some.rule.now) (map most c.in-Some.behind.now) (c.args.steps.now + sum (map most c.args.rules.now)) steps counted;
      usable = All-tail IsUsable c.in-Some.rule.now c.in-Some.behind.now (rw first at c.rules.invariant.usable);
      coarse = All-tail (λ (rule : Rule). is_fine rule.freq ≡ false) c.in-Some.rule.now c.in-Some.behind.now (rw first at c.rules.invariant.coarse);
    }
