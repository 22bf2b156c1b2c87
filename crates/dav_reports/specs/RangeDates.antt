-- Where the ranges of a report leave the dates that are served, and how that is refused.
use Rattle.std.specs.Prelude.{◌≡◌, List, ◌++◌, map, flat_map, option_map, option_to_list, Option, codes}
use Rattle.cal_model.specs.declared.filter.CompFilter.{CompFilter}
use Rattle.cal_model.specs.declared.filter.CompFilter.TheViews.{out-CompFilter}
use Rattle.cal_model.specs.declared.filter.PropFilter.{PropFilter}
use Rattle.cal_model.specs.declared.reply.Refusal.{Refusal}
use Rattle.cal_model.specs.declared.row.Range.{Range}
use Rattle.cal_model.specs.Bodies.Refusals.{caldav_refusal}
use Rattle.cal_model.specs.Objects.ObjectReading.{first_there}
use Rattle.cal_model.specs.Refusals.ReportRefusals.{range_refusal}
use Rattle.cal_model.specs.Reports.NamedRanges.{ranges_of_test}
use Rattle.dav_reports.specs.declared.dates.Outside.{Outside}
use Rattle.dav_reports.specs.declared.dates.Outside.TheVariants.{Before, Behind}

abbrev pub refusal_of : Outside → Refusal
refusal_of Before = caldav_refusal (codes "min-date-time")
refusal_of Behind = caldav_refusal (codes "max-date-time")

-- why some ranges are refused: the first that leaves the dates
abbrev pub first_refusal : List Range → Option Refusal
first_refusal ranges = first_there (map range_refusal ranges)

-- what was found is where the first of some ranges that does so leaves the dates
abbrev pub IsFirst : List Range → Option Outside → Type 0
IsFirst ranges found = option_map refusal_of found ≡ first_refusal ranges

-- the ranges of prop-filters, and those of a comp-filter aside from those of the comp-filters in it
abbrev pub ranges_of_props : List PropFilter → List Range
ranges_of_props filters = flat_map (λ (p : PropFilter). ranges_of_test p.test) filters

abbrev pub own_ranges : CompFilter → List Range
own_ranges filter = option_to_list (out-CompFilter filter).time ++ ranges_of_props (out-CompFilter filter).props
