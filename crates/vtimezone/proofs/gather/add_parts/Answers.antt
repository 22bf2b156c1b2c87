use Rattle.std.proofs.Common.{◌++◌, flat_map, ap, ◌∙◌, append_assoc, arith}
use Rattle.std.proofs.lemmas.List.Elements.{All-head, All-tail}
use Rattle.cal_model.specs.Recurrence.RecurrenceSet.{every_moment}
use Rattle.cal_model.specs.TimeZones.TableBounds.{IsPart}
use Rattle.cal_model.specs.TimeZones.ZoneOnsets as zone
use Rattle.vtimezone.specs.Gathered as spec
use Rattle.vtimezone.proofs.GatherLemmas.{table_count-cons}
use Rattle.vtimezone.proofs.gather.add_parts.Goals as goal

pub add_part-requires : goal.add_part-requires
add_part-requires g c =
    let e = c.in-Some.ensures.cases.0 in
    record { part = All-head IsPart c.in-Some.part.now c.in-Some.behind.now (rw e at c.loop-part.invariant.parts) }

pub loop-part-preserved : goal.loop-part-preserved
loop-part-preserved g c =
    let e = c.in-Some.ensures.cases.0 in
    let inv = c.loop-part.invariant in
    let behind = flat_map (zone.part_changes every_moment) c.in-Some.behind.now in
    record {
      parts = All-tail IsPart c.in-Some.part.now c.in-Some.behind.now (rw e at inv.parts);
      all = ap (λ cs. cs ++ behind) c.in_ok-add_part.ensures.changes
          ∙ (append_assoc (spec.changes_of c.loop-part.changes) (zone.part_changes every_moment c.in-Some.part.now) behind ∙ (rw e at inv.all));
      room = (let more = table_count-cons c.in-Some.part.now c.in-Some.behind.now in let room = rw e at inv.room in let taken = c.in_ok-add_part.ensures.room in omega (arith, more, room, taken));
    }
