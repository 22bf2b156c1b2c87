-- Whether an object matches a filter (RFC 4791, 9.7), by the structure of the filter, over a list of rows of the object.
-- Each test is made by itself: texts by `TextTests`, dates by `DateProperties`, ranges of components by `ComponentRanges`.
use Rattle.std.specs.Prelude.{ℕ, Bool, not, ◌&&◌, if◌then◌else◌, List, [], ◌∷◌}
use Rattle.std.specs.List.{list_any, list_all}
use Rattle.cal_base.specs.declared.line.Line.{Line}
use Rattle.cal_model.specs.declared.filter.PropTest.{PropTest}
use Rattle.cal_model.specs.declared.filter.PropTest.TheVariants.{Absent, Defined, Time, Text}
use Rattle.cal_model.specs.declared.filter.PropFilter.{PropFilter}
use Rattle.cal_model.specs.declared.filter.CompFilter.{CompFilter}
use Rattle.cal_model.specs.declared.filter.CompFilter.TheOpen.{CompFilter-F}
use Rattle.cal_model.specs.declared.filter.CompFilter.TheFolds.{fold-CompFilter}
use Rattle.cal_model.specs.declared.filter.Filter.{Filter}
use Rattle.cal_model.specs.declared.object.Object.{Object}
use Rattle.cal_model.specs.declared.row.Row.{Row}
use Rattle.cal_model.specs.declared.zone.ZoneTable.{ZoneTable}
use Rattle.cal_model.specs.Objects.ComponentLines.{all_of, lines_of, is_named}
use Rattle.cal_model.specs.Filters.ComponentRanges.{Matched, Site, sites_in, whole_site, time_range_passes}
use Rattle.cal_model.specs.Filters.DateProperties.{DateReading, DatedLine, dates_named}
use Rattle.cal_model.specs.Words.Lists.{is_empty}
use Rattle.cal_model.specs.Ranges.Overlap.{is_in}
use Rattle.cal_model.specs.Instances.Rows.{rows as rows_of}
use Rattle.cal_model.specs.Filters.TextTests.{text_passes, param_filters_hold}

-- Properties (RFC 4791, 9.7.2)

abbrev pub date_reading : Matched → DateReading
date_reading matched = record { zones = matched.object.zones; floating = matched.zone }

-- a prop-filter's test on the lines of its name in a component: none is there, or some passes, and all that is asked of its parameters holds
abbrev pub prop_test_holds : Matched → Site → PropFilter → PropTest → Bool
prop_test_holds matched site filter Absent = is_empty (all_of filter.name (lines_of site.node))
prop_test_holds matched site filter Defined =
    list_any (λ (line : Line). param_filters_hold filter.params line.params) (all_of filter.name (lines_of site.node))
prop_test_holds matched site filter (Time range) =
    list_any (λ (date : DatedLine). is_in range date.moment && param_filters_hold filter.params date.params) (dates_named (date_reading matched) site.in_timezone site.node filter.name)
prop_test_holds matched site filter (Text test) =
    list_any (λ (line : Line). text_passes test line.value && param_filters_hold filter.params line.params) (all_of filter.name (lines_of site.node))

abbrev pub prop_filter_holds : Matched → Site → PropFilter → Bool
prop_filter_holds matched site filter = prop_test_holds matched site filter filter.test

-- Components (RFC 4791, 9.7.1)

abbrev pub has_filter_name : List ℕ → Site → Bool
has_filter_name name site = is_named name site.node

-- a component passes all that a comp-filter asks of it: its name, its range, its properties, and the components in it
abbrev pub passes_all : Matched → CompFilter-F (List Site → Bool) → Site → Bool
passes_all matched filter site =
    has_filter_name filter.name site
    && time_range_passes matched filter.time site
    && list_all (prop_filter_holds matched site) filter.props
    && list_all (λ (inner : List Site → Bool). inner (sites_in site)) filter.comps

-- a comp-filter on components that stand side by side: none has its name, or some of that name passes all its tests
abbrev pub comp_step : Matched → CompFilter-F (List Site → Bool) → List Site → Bool
comp_step matched filter siblings =
    if filter.absent then not (list_any (has_filter_name filter.name) siblings) else list_any (passes_all matched filter) siblings

abbrev pub comp_filter_holds : Matched → CompFilter → List Site → Bool
comp_filter_holds matched = fold-CompFilter (List Site → Bool) (comp_step matched)

-- The object matches the filter, as far as the given rows tell.
abbrev pub matches : Filter → Object → List Row → ZoneTable → Bool
matches filter object rows zone =
    comp_filter_holds (record { object = object; rows = rows; zone = zone }) filter.top (whole_site object ∷ [])

-- the same over all rows of the object
abbrev pub matches_object : Filter → Object → ZoneTable → Bool
matches_object filter object zone = matches filter object (rows_of object) zone
