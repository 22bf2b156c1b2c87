-- An object that has no zone of which nothing is known, with rows that lie near.
use Rattle.std.specs.Prelude.{All}
use Rattle.cal_model.specs.TimeZones.TableBounds.{IsTable}
use Rattle.overlap_rules.specs.Bounds.{IsNearRow}
use Rattle.bench.specs.declared.filters.Entry.{Entry}

pub record IsEntry (entry : Entry) : Type 0 where
  pub zones : All IsTable entry.object.zones
  pub rows : All IsNearRow entry.rows
