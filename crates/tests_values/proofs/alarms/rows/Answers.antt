use Rattle.std.proofs.lemmas.List.Elements.{All-push, All-same}
use Rattle.overlap_rules.specs.Bounds.{IsNearRow}
use Rattle.tests_values.proofs.alarms.rows.Goals as goal

pub hours-preserved : goal.hours-preserved
hours-preserved c =
    All-same IsNearRow c.push-in-hours.new.self _ c.in_ok-push-2.ensures.ok
    (All-push IsNearRow c.push.new.self c.row-in-hours.result
    (All-same IsNearRow c.push.new.self _ c.in_ok-push.ensures.ok (All-push IsNearRow c.hours.rows c.row.result c.hours.invariant c.row.ensures))
    c.row-in-hours.ensures)

pub returns : goal.returns
returns c = All-same IsNearRow c.push-2.new.self _ c.in_ok-push-3.ensures.ok (All-push IsNearRow c.hours.rows c.row-2.result c.hours.invariant c.row-2.ensures)
