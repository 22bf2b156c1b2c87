-- The ranges that a report names: in its filter (RFC 4791, 9.7), in what it selects of the calendar data (9.6.5 to 9.6.7), or in a query for busy times (7.10).
-- A list over the whole request; which rows meet a range stands in `RowRanges`.
use Rattle.std.specs.Prelude.{List, [], ◌∷◌, ◌++◌, flat_map, option_to_list}
use Rattle.cal_model.specs.declared.filter.PropTest.{PropTest}
use Rattle.cal_model.specs.declared.filter.PropTest.TheVariants.{Time}
use Rattle.cal_model.specs.declared.filter.PropFilter.{PropFilter}
use Rattle.cal_model.specs.declared.filter.CompFilter.{CompFilter}
use Rattle.cal_model.specs.declared.filter.CompFilter.TheOpen.{CompFilter-F}
use Rattle.cal_model.specs.declared.filter.CompFilter.TheFolds.{fold-CompFilter}
use Rattle.cal_model.specs.declared.report.ReportRequest.{ReportRequest}
use Rattle.cal_model.specs.declared.report.ReportRequest.TheVariants.{Query, Multiget, FreeBusy}
use Rattle.cal_model.specs.declared.row.Range.{Range}
use Rattle.cal_model.specs.declared.selection.Recur.{Recur}
use Rattle.cal_model.specs.declared.selection.Recur.TheVariants.{Whole, Expand, Limit}
use Rattle.cal_model.specs.declared.selection.Selection.{Selection}

-- the range of a prop-filter
abbrev pub ranges_of_test : PropTest → List Range
ranges_of_test (Time range) = range ∷ []
ranges_of_test other = []

-- the ranges of a comp-filter: its own, those of its properties, and those of the components in it
abbrev pub ranges_step : CompFilter-F (List Range) → List Range
ranges_step filter = option_to_list filter.time ++ (flat_map (λ (p : PropFilter). ranges_of_test p.test) filter.props ++ flat_map (λ (inner : List Range). inner) filter.comps)

abbrev pub ranges_of_filter : CompFilter → List Range
ranges_of_filter = fold-CompFilter (List Range) ranges_step

-- the range over which recurrence is expanded or limited
abbrev pub ranges_of_recur : Recur → List Range
ranges_of_recur Whole = []
ranges_of_recur (Expand range) = range ∷ []
ranges_of_recur (Limit range) = range ∷ []

abbrev pub ranges_of_selection : Selection → List Range
ranges_of_selection select = ranges_of_recur select.recur ++ option_to_list select.busy

-- the ranges that a report names, in the order in which its dates are looked at: those of what it selects, then those of its filter
abbrev pub ranges_named : ReportRequest → List Range
ranges_named (Query props select filter timezone) = ranges_of_selection select ++ ranges_of_filter filter.top
ranges_named (Multiget props select hrefs) = ranges_of_selection select
ranges_named (FreeBusy range) = range ∷ []
