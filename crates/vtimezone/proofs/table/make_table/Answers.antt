use Rattle.std.proofs.Common.{All, subst, sym}
use Rattle.cal_model.specs.TimeZones.TableBounds.{IsPart, IsTable}
use Rattle.cal_model.proofs.TimeZones.ZoneTableLaws.{IsTable-table_of}
use Rattle.vtimezone.proofs.table.make_table.Goals as goal

pub returns-clause-convertible : goal.returns-clause-convertible
returns-clause-convertible g c =
    subst IsTable (sym c.in_ok-table.ensures)
    (IsTable-table_of c.args.name.now c.as_slice-parts.result.now (subst (All IsPart) (sym c.as_slice-parts.ensures) c.requires.parts))
