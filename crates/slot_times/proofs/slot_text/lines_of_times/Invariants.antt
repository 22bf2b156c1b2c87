use Rattle.std.proofs.Common.{◌≡◌, ◌++◌, length}
use Rattle.std.specs.Prelude.{All, flat_map}
use Rattle.slot_times.specs.SlotCalendars.{IsWritable}
use Rattle.slot_times.specs.SlotTimes.{time_line}
use Rattle.slot_times.proofs.slot_text.lines_of_times.Given as goal

-- the lines so far, and those of the times that are left
abbrev pub invariant-times : goal.invariant-times
invariant-times l = record {
  made : l.text ++ flat_map time_line l.rest ≡ flat_map time_line l.times;
  left : All IsWritable l.rest;
}

abbrev pub decreases-times : goal.decreases-times
decreases-times l = length l.rest
