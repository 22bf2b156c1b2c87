-- The dates of a component that do not fit one another: one part of what makes that it cannot stand.
use Rattle.std.specs.Prelude.{ℕ, Bool, ◌||◌, List, ◌++◌, Option, codes}
use Rattle.std.specs.List.{list_any}
use Rattle.cal_base.specs.declared.line.Line.{Line}
use Rattle.cal_moment.specs.declared.stamp.Stamp.{Stamp}
use Rattle.cal_model.specs.declared.zone.ZoneTable.{ZoneTable}
use Rattle.cal_model.specs.Objects.LineValues.{periods_at, stamp_at}
use Rattle.cal_model.specs.Objects.ComponentFaults.{is_bad_end, is_bad_period}

-- DTEND or DUE does not fit the start, or a period ends before it starts
abbrev pub has_bad_dates : List (List ℕ) → List ZoneTable → Option Stamp → List Line → Bool
has_bad_dates names zones start lines =
    is_bad_end zones start (stamp_at names (codes "DTEND") lines) || is_bad_end zones start (stamp_at names (codes "DUE") lines)
    || list_any (is_bad_period zones) (periods_at names (codes "RDATE") lines ++ periods_at names (codes "FREEBUSY") lines)
