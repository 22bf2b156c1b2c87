-- The moments from which the alarms of a component count, and what is made ready of them: those by starts and those by ends, in order.
use Rattle.std.specs.Prelude.{◌≡◌, ℕ, ℤ, List, Option, Some, IfSome, filter_map}
use Rattle.std.specs.List.{slice_get}
use Rattle.std.specs.List.Sorted.{IsPermutation, IsSorted}
use Rattle.std.specs.Ordering.{int_cmp}
use Rattle.cal_model.specs.declared.object.Component.{Component}
use Rattle.cal_model.specs.declared.object.Related.{Related}
use Rattle.cal_model.specs.declared.object.Related.TheVariants.{Start, End}
use Rattle.cal_model.specs.declared.row.Row.{Row}
use Rattle.cal_model.specs.Filters.ComponentRanges.{Matched, rows_of_number}
use Rattle.cal_model.specs.Instances.Rows.{Numbered}
use Rattle.cal_model.specs.Ranges.Overlap.{dated_fixed, moment_related}
use Rattle.filter_eval.specs.declared.moments.AlarmMoments.{AlarmMoments}

-- the moment of a row from which an alarm counts
abbrev pub moment_of : Matched → Related → Component → Row → Option ℤ
moment_of matched related component row = moment_related related component (dated_fixed row matched.zone)

-- those of the rows of a component
abbrev pub moments_of : Matched → Numbered → Related → List ℤ
moments_of matched n related = filter_map (moment_of matched related n.component) (rows_of_number matched n.number)

-- the same moments in rising order
pub record AreInOrder (moments ordered : List ℤ) : Type 0 where
  pub same : IsPermutation moments ordered
  pub rising : IsSorted int_cmp ordered

abbrev pub ordered_by : AlarmMoments → Related → Option (List ℤ)
ordered_by moments Start = moments.starts
ordered_by moments End = moments.ends

-- what is made ready for a component
abbrev pub AreMomentsOf : Matched → Numbered → AlarmMoments → Type 0
AreMomentsOf matched n moments = (related : Related) → IfSome (ordered_by moments related) (AreInOrder (moments_of matched n related))

-- what is made ready for each component, at its number
abbrev pub AreAllMoments : Matched → List AlarmMoments → Type 0
AreAllMoments matched all = (number : ℕ) (component : Component) (moments : AlarmMoments) → slice_get matched.object.components number ≡ Some component → slice_get all number ≡ Some moments
    → AreMomentsOf matched (record { number = number; component = component }) moments
