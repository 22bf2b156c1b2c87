use Rattle.std.proofs.Common.{◌≡◌, ◌+◌, ◌++◌, All, false, flat_map, length}
use Rattle.cal_model.specs.declared.rule.Rule.{Rule}
use Rattle.cal_model.specs.Recurrence.NextPassing.{is_fine}
use Rattle.cal_model.specs.Recurrence.RuleBounds.{IsUsable}
use Rattle.cal_model.specs.Recurrence.RecurrenceSet.{every_moment}
use Rattle.cal_model.specs.TimeZones.ZoneOnsets as zone
use Rattle.vtimezone.specs.Gathered as spec
use Rattle.vtimezone.proofs.gather.add_rules.Given as goal

-- what was put there, and the changes of the rules to come, are all
abbrev pub invariant-loop-rule : goal.invariant-loop-rule
invariant-loop-rule g l = record {
  usable : All IsUsable l.rest;
  coarse : All (λ (rule : Rule). is_fine rule.freq ≡ false) l.rest;
  all : spec.changes_of l.changes ++ spec.changes_at l.part (flat_map (zone.rule_moments every_moment l.part) l.rest)
      ≡ spec.changes_of l.fn.changes ++ spec.changes_at l.part (flat_map (zone.rule_moments every_moment l.part) l.of_part);
  room : l.room + spec.count_of_rules l.part l.of_part ≡ l.fn.room + spec.count_of_rules l.part l.rest;
}

abbrev pub decreases-loop-rule : goal.decreases-loop-rule
decreases-loop-rule g l = length l.rest
