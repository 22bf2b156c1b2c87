use Rattle.std.proofs.lemmas.List.Elements.{All-tail}
use Rattle.cal_model.specs.TimeZones.TableBounds.{IsTable}
use Rattle.cal_model.proofs.Conversions.ZonesAtHandLemmas.{tables_more}
use Rattle.cal_model.proofs.zones_at_hand.local_times_of.Goals as goal

pub tables-preserved : goal.tables-preserved
tables-preserved c =
    let first = c.in-Some.ensures.cases.0 in
    let same = c.in_ok-of.ensures in
    let more = tables_more c.tables.zones c.in_ok-of.field-0 c.in-Some.behind.now in
    let made = c.tables.invariant.made in
    record {
      made = rw c.in_ok-push.ensures.ok (rw (more, same, ← first) made);
      left = All-tail IsTable c.in-Some.table.now c.in-Some.behind.now (rw first at c.tables.invariant.left);
    }
