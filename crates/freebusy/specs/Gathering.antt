-- Busy times that are gathered for the runs of one range, of which some may have been replaced by their runs.
use Rattle.std.specs.Prelude.{◌≡◌, ◌⊎◌, ℕ, ◌+◌, ◌*◌, ◌≤◌, ◌<◌, List, ◌++◌, length}
use Rattle.cal_model.specs.declared.row.Range.{Range}
use Rattle.cal_model.specs.Busy.BusyTimes.{BusyTime}
use Rattle.cal_model.specs.Busy.BusyRuns.{runs}
use Rattle.freebusy.specs.declared.gathering.Gathered.{Gathered}
use Rattle.freebusy.specs.Times.{times_of}

-- the times that are held, and the range that they are for
abbrev pub gathered_times : Gathered → List BusyTime
gathered_times gathered = times_of gathered.rows

abbrev pub gathered_range : Gathered → Range
gathered_range gathered = gathered.range

abbrev pub gathered_runs : Gathered → List BusyTime
gathered_runs gathered = runs (gathered_times gathered) (gathered_range gathered)

-- how many there may be before their runs are put in their place
abbrev pub gathered_room : Gathered → ℕ
gathered_room gathered = gathered.room

-- two lists of times that give the same runs in a range, whatever times come behind them
abbrev pub AreAlikeIn : Range → List BusyTime → List BusyTime → Type 0
AreAlikeIn range first second = (behind : List BusyTime) → runs (first ++ behind) range ≡ runs (second ++ behind) range

-- some times were put behind those that were gathered
pub record Gathers (old new : Gathered) (times : List BusyTime) : Type 0 where
  pub range : gathered_range new ≡ gathered_range old
  pub alike : AreAlikeIn (gathered_range old) (gathered_times old ++ times) (gathered_times new)

-- One time more is held. There was room for it, or the runs stand in the place of the times before it, and there is room for twice as many times and 1,000.
abbrev pub StaysSmall : Gathered → Gathered → Type 0
StaysSmall old new =
    ((length (gathered_times new) ≤ gathered_room old) × (gathered_room new ≡ gathered_room old))
    ⊎ ((length (gathered_times new) ≡ length (gathered_runs old) + 1) × (gathered_room new ≤ 2 * length (gathered_runs old) + 1000))

-- there was room for one time more, or there are the runs in the place of the times
abbrev pub HasRoom : Gathered → Gathered → Type 0
HasRoom old new =
    ((length old.rows < old.room) × (new ≡ old))
    ⊎ ((new.range ≡ old.range) × (times_of new.rows ≡ gathered_runs old) × (new.room ≤ 2 * length new.rows + 1000))
