use Rattle.std.proofs.Common.{◌≡◌, ◌+◌, ◌≤◌, ◌++◌, length, map, false}
use Rattle.std.specs.Prelude.{All, flat_map, sum, count_by}
use Rattle.cal_model.specs.declared.rule.Rule.{Rule}
use Rattle.cal_model.specs.Recurrence.NextPassing.{is_fine}
use Rattle.cal_model.specs.Recurrence.RuleBounds.{IsUsable}
use Rattle.cal_model.specs.Recurrence.RecurrenceSet.{every_moment}
use Rattle.cal_model.specs.Values.LocalTimes.{moment_of_local}
use Rattle.cal_model.specs.Walks.Budgets.{last_period, passes_by}
use Rattle.cal_model.specs.Walks.Clocks.{reading_by}
use Rattle.cal_model.specs.Walks.KeptMoments.{starts_between}
use Rattle.rrule_sets.proofs.later.put_rules.Given as goal

-- the starts so far, and those of the rules that are left; the steps so far, and what these may take
abbrev pub invariant-rules : goal.invariant-rules
invariant-rules g l = record {
  made : l.out ++ flat_map (λ (rule : Rule). starts_between rule (moment_of_local l.start) (reading_by l.clock) (moment_of_local l.low) (moment_of_local l.high)) l.rest
      ≡ l.initial.out ++ flat_map (λ (rule : Rule). starts_between rule (moment_of_local l.start) (reading_by l.clock) (moment_of_local l.low) (moment_of_local l.high)) l.rules;
  counted : l.steps + sum (map (λ (rule : Rule). 1 + count_by (passes_by rule (moment_of_local l.start) (reading_by l.clock).dated (last_period rule (moment_of_local l.high))) every_moment) l.rest)
      ≤ l.initial.steps + sum (map (λ (rule : Rule). 1 + count_by (passes_by rule (moment_of_local l.start) (reading_by l.clock).dated (last_period rule (moment_of_local l.high))) every_moment) l.rules);
  usable : All IsUsable l.rest;
  coarse : All (λ (rule : Rule). is_fine rule.freq ≡ false) l.rest;
}

abbrev pub decreases-rules : goal.decreases-rules
decreases-rules g l = length l.rest
