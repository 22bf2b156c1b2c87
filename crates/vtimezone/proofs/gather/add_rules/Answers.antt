use Rattle.std.proofs.Common.{◌≡◌, ◌++◌, false, flat_map, arith}
use Rattle.std.proofs.lemmas.List.Elements.{All-head, All-tail}
use Rattle.cal_model.specs.declared.rule.Rule.{Rule}
use Rattle.cal_model.specs.Recurrence.NextPassing.{is_fine}
use Rattle.cal_model.specs.Recurrence.RuleBounds.{IsUsable}
use Rattle.cal_model.specs.Recurrence.RecurrenceSet.{every_moment}
use Rattle.cal_model.specs.TimeZones.ZoneOnsets as zone
use Rattle.vtimezone.specs.Gathered as spec
use Rattle.vtimezone.proofs.GatherLemmas.{gathered_more, count_of_rules-cons}
use Rattle.vtimezone.proofs.gather.add_rules.Goals as goal

pub add_rule-requires-clause-rule : goal.add_rule-requires-clause-rule
add_rule-requires-clause-rule g c =
    let e = c.in-Some.ensures.cases.0 in
    All-head IsUsable c.in-Some.rule.now c.in-Some.behind.now (rw e at c.loop-rule.invariant.usable)

pub loop-rule-preserved : goal.loop-rule-preserved
loop-rule-preserved g c =
    let e = c.in-Some.ensures.cases.0 in
    let inv = c.loop-rule.invariant in
    let part = c.args.part.now in
    record {
      usable = All-tail IsUsable c.in-Some.rule.now c.in-Some.behind.now (rw e at inv.usable);
      coarse = All-tail (λ (rule : Rule). is_fine rule.freq ≡ false) c.in-Some.rule.now c.in-Some.behind.now (rw e at inv.coarse);
      all = gathered_more part (spec.changes_of c.loop-rule.changes) (spec.changes_of c.add_rule.new.changes)
          (spec.changes_of c.args.changes.now ++ spec.changes_at part (flat_map (zone.rule_moments every_moment part) c.args.of_part.now))
          (zone.rule_moments every_moment part c.in-Some.rule.now) (flat_map (zone.rule_moments every_moment part) c.in-Some.behind.now) c.in_ok-add_rule.ensures.changes (rw e at inv.all);
      room = (let more = count_of_rules-cons part c.in-Some.rule.now c.in-Some.behind.now in let room = rw e at inv.room in let taken = c.in_ok-add_rule.ensures.room in omega (arith, more, room, taken));
    }
