use Rattle.std.proofs.Common.{◌≡◌, ◌++◌, length, false}
use Rattle.std.specs.Prelude.{All, filter, flat_map}
use Rattle.cal_model.specs.declared.rule.Rule.{Rule}
use Rattle.cal_model.specs.Instances.Starts.{ascending}
use Rattle.cal_model.specs.Objects.ObjectFacts.{IsServed}
use Rattle.cal_model.specs.Recurrence.NextPassing.{is_fine}
use Rattle.cal_model.specs.Recurrence.RuleBounds.{IsUsable}
use Rattle.override_merge.specs.Conversions.{tables_of}
use Rattle.rrule_sets.specs.CountedRows.{all_later, is_left}
use Rattle.rrule_sets.proofs.count.with_rules.Given as goal

-- the starts so far, and those of the rules that are left
abbrev pub invariant-rules : goal.invariant-rules
invariant-rules g l = record {
  made : ascending (l.starts ++ filter (is_left (tables_of l.zones) l.stamp l.taken) (flat_map (all_later (tables_of l.zones) l.stamp) l.rest))
      ≡ ascending (l.fn.starts ++ filter (is_left (tables_of l.zones) l.stamp l.taken) (flat_map (all_later (tables_of l.zones) l.stamp) l.rules));
  served : All (λ (rule : Rule). IsServed l.stamp) l.rest;
  usable : All IsUsable l.rest;
  coarse : All (λ (rule : Rule). is_fine rule.freq ≡ false) l.rest;
}

abbrev pub decreases-rules : goal.decreases-rules
decreases-rules g l = length l.rest
