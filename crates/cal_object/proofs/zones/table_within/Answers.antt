use Rattle.std.proofs.Common.{◌∙◌, sym, subst, All}
use Rattle.cal_model.specs.TimeZones.TableBounds.{IsPart}
use Rattle.cal_object.proofs.ReadParts.{parts_can_be_read}
use Rattle.cal_object.proofs.zones.table_within.Goals as goal

pub make_table-requires-clause-parts : goal.make_table-requires-clause-parts
make_table-requires-clause-parts c =
    subst (All IsPart) (sym c.in_ok-parts.ensures) (parts_can_be_read c.args.zone.now (sym c.has_zone_fault.ensures ∙ c.if-has_zone_fault.false))
