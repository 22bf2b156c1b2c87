use Rattle.std.proofs.Common.{◌≡◌, ◌++◌, length}
use Rattle.std.specs.Prelude.{All}
use Rattle.cal_model.specs.TimeZones.TableBounds.{IsTable}
use Rattle.cal_model.specs.Conversions.ZonesAtHand.{tables_of}
use Rattle.cal_model.proofs.zones_at_hand.local_times_of.Given as goal

-- the zones so far, and those that are left
abbrev pub invariant-tables : goal.invariant-tables
invariant-tables l = record {
  made : tables_of l.zones ++ l.rest ≡ l.tables;
  left : All IsTable l.rest;
}

abbrev pub decreases-tables : goal.decreases-tables
decreases-tables l = length l.rest
