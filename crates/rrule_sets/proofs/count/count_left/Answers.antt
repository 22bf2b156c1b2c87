use Rattle.std.proofs.Common.{◌≡◌, false}
use Rattle.std.specs.Prelude.{length}
use Rattle.cal_model.specs.declared.rule.Rule.{Rule}
use Rattle.cal_model.specs.Instances.Starts.{own_start}
use Rattle.cal_model.specs.Objects.ObjectFacts.{IsServed}
use Rattle.cal_model.specs.Recurrence.NextPassing.{is_fine}
use Rattle.cal_model.specs.Recurrence.RuleBounds.{IsUsable}
use Rattle.override_merge.proofs.StampLemmas.{convertible_some, own_start_convertible}
use Rattle.rrule_sets.proofs.CountLemmas.{rules_kept, rules_served}
use Rattle.rrule_sets.proofs.NearLemmas.{recurring_start, served_start}
use Rattle.rrule_sets.proofs.count.count_left.Goals as goal

pub other_starts-requires-clause-stamp : goal.other_starts-requires-clause-stamp
other_starts-requires-clause-stamp g c = convertible_some (length c.args.zones.now) (own_start c.args.component.now) c.args.stamp c.requires.own (own_start_convertible (length c.args.zones.now) c.args.component.now c.requires.component.row)

pub with_rules-requires-clause-stamp : goal.with_rules-requires-clause-stamp
with_rules-requires-clause-stamp g c = (convertible_some (length c.args.zones.now) (own_start c.args.component.now) c.args.stamp c.requires.own (own_start_convertible (length c.args.zones.now) c.args.component.now c.requires.component.row)).zone

pub with_rules-requires-clause-served : goal.with_rules-requires-clause-served
with_rules-requires-clause-served g c =
    rw c.rules_of-rules.ensures (rules_served (IsServed c.args.stamp) c.args.component.now (λ does. served_start c.args.component.now.start c.args.stamp (recurring_start c.args.component.now c.args.stamp does c.requires.own) c.requires.component.served))

pub with_rules-requires-clause-usable : goal.with_rules-requires-clause-usable
with_rules-requires-clause-usable g c = rw c.rules_of-rules.ensures (rules_kept IsUsable c.args.component.now c.requires.component.usable)

pub with_rules-requires-clause-coarse : goal.with_rules-requires-clause-coarse
with_rules-requires-clause-coarse g c = rw c.rules_of-rules.ensures (rules_kept (λ (rule : Rule). is_fine rule.freq ≡ false) c.args.component.now c.requires.component.coarse)
