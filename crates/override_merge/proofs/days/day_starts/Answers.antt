use Rattle.std.proofs.Common.{◌∷◌, [], FitsSigned, w64, to_z-of_z, arith}
use Rattle.std.proofs.lemmas.Int.{ints}
use Rattle.std.proofs.lemmas.List.{append_assoc}
use Rattle.std.proofs.lemmas.List.Elements.{All-head, All-tail}
use Rattle.cal_model.specs.Instances.Alignment.{reading_of}
use Rattle.override_merge.specs.Conversions.{tables_of, HasRowTimes}
use Rattle.override_merge.specs.DayStarts.{days_of}
use Rattle.override_merge.proofs.days.day_starts.Goals as goal

pub rows-preserved : goal.rows-preserved
rows-preserved c =
    let first = c.in-Some.ensures.cases.0 in
    let behind = days_of (reading_of (tables_of c.args.zones.now) c.args.ids) c.in-Some.behind.now in
    let made = rw first at c.rows.invariant.made in
    let left = rw first at c.rows.invariant.left in
    let near = (All-head HasRowTimes c.in-Some.row.now c.in-Some.behind.now left).id in
    let fits : FitsSigned w64 c.in-Some.row.now.id = omega (arith, ints, near) in
    let entry = simp to_z-of_z at c.day_start.ensures in
    record {
      made = rw (c.in_ok-push.ensures.ok, append_assoc c.rows.starts (c.day_start.result ∷ []) behind, entry) made;
      left = All-tail HasRowTimes c.in-Some.row.now c.in-Some.behind.now left;
    }
