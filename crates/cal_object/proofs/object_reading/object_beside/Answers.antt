use Rattle.std.proofs.Common.{◌≡◌, ◌∙◌, sym, ap, subst, length, arith}
use Rattle.std.specs.Prelude.{All, filter}
use Rattle.std.proofs.lemmas.List.{length-map}
use Rattle.cal_base.specs.Lines.ContentLines.{placed_lines}
use Rattle.cal_model.specs.Recurrence.RecurrenceSet.{every_moment}
use Rattle.cal_model.specs.Objects.ComponentLines.{children_of}
use Rattle.cal_model.specs.Objects.ZoneReading.{is_zone, zone_table, zone_names}
use Rattle.cal_model.specs.declared.object.Object.{Object}
use Rattle.cal_model.specs.Objects.ObjectReading.{first_there, object_faults}
use Rattle.cal_object.specs.Faults.{IsFound}
use Rattle.cal_object.specs.Identifiers.{HasReadId}
use Rattle.cal_object.proofs.FaultLaws.{object_in-with}
use Rattle.cal_object.proofs.FewLines.{filter_short}
use Rattle.cal_object.proofs.ReadIds.{ids_read, components_short}
use Rattle.cal_object.proofs.object_reading.object_beside.Goals as goal

pub names_of-requires : goal.names_of-requires
names_of-requires c =
    let zones = filter is_zone (children_of c.args.calendar) in
    let same : length c.args.zones ≡ length zones = ap length c.requires.zones ∙ length-map zones (zone_table every_moment) in
    let few = filter_short is_zone (children_of c.args.calendar) in
    let room = c.requires.tree.few in
    let slice = ap length c.as_slice.ensures in
    omega (arith, same, few, room, slice)

pub check_object-requires-clause-ids : goal.check_object-requires-clause-ids
check_object-requires-clause-ids c =
    subst (λ (object : Object). All HasReadId object.components) (sym c.in-Ok-object_with.ensures) (ids_read (zone_names c.args.zones) 0 (children_of c.args.calendar))

pub returns-in-Ok-check_object-clause-object : goal.returns-in-Ok-check_object-clause-object
returns-in-Ok-check_object-clause-object c = c.in-Ok-object_with.ensures ∙ object_in-with c.args.zones (placed_lines c.args.octets.now) c.args.calendar c.requires.zones

pub returns-in-Ok-check_object-clause-components : goal.returns-in-Ok-check_object-clause-components
returns-in-Ok-check_object-clause-components c =
    let short = components_short (zone_names c.args.zones) 0 (children_of c.args.calendar) in
    let room = c.requires.tree.few in
    let same = ap (λ (object : Object). length object.components) c.in-Ok-object_with.ensures in
    omega (arith, short, room, same)

pub returns-clause-fault : goal.returns-clause-fault
returns-clause-fault c =
    let placed = placed_lines c.args.octets.now in
    let made = c.in-Ok-object_with.ensures in
    let whole = made ∙ object_in-with c.args.zones placed c.args.calendar c.requires.zones in
    let tree : c.in-Ok-object_with.object.tree ≡ c.args.calendar = ap (λ (object : Object). object.tree) made in
    subst (λ found. IsFound found c.in-Err.fault)
    (ap (λ calendar. first_there (object_faults placed calendar c.in-Ok-object_with.object)) tree ∙ ap (λ object. first_there (object_faults placed c.args.calendar object)) whole)
    c.in-Err.ensures.fault
