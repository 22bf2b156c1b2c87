use Rattle.std.proofs.Common.{rules, of_calls, int_le}
use Rattle.std.proofs.lemmas.Fn.{always_returns_same}
use Rattle.cal_model.specs.declared.zone.Onset.{Onset}
use Rattle.cal_model.proofs.TimeZones.Onsets.{is_partitioned}
use Rattle.cal_model.proofs.zone_time.onsets_until.Goals as goal

pub returns-clause-before : goal.returns-clause-before
returns-clause-before c =
    let point = c.partition_point.ensures.partitioned (λ (o : Onset). int_le o.at.0 c.args.at) (always_returns_same _ _ _ (λ a r f k. search (rules, of_calls))) (is_partitioned c.args.onsets.now c.args.at c.requires) in
    point.0

pub returns-clause-after : goal.returns-clause-after
returns-clause-after c =
    let point = c.partition_point.ensures.partitioned (λ (o : Onset). int_le o.at.0 c.args.at) (always_returns_same _ _ _ (λ a r f k. search (rules, of_calls))) (is_partitioned c.args.onsets.now c.args.at c.requires) in
    point.1
