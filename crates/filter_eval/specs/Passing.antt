-- What a line, a date and a component pass: the tests of a filter, cut where the code cuts them.
use Rattle.std.specs.Prelude.{Bool, ◌&&◌, List}
use Rattle.std.specs.List.{list_all}
use Rattle.cal_base.specs.declared.line.Line.{Line}
use Rattle.cal_model.specs.declared.filter.ParamFilter.{ParamFilter}
use Rattle.cal_model.specs.declared.filter.TextMatch.{TextMatch}
use Rattle.cal_model.specs.declared.row.Range.{Range}
use Rattle.cal_model.specs.Filters.DateProperties.{DatedLine}
use Rattle.cal_model.specs.Filters.TextTests.{text_passes, param_filters_hold}
use Rattle.cal_model.specs.Ranges.Overlap.{is_in}
use Rattle.cal_model.specs.declared.filter.CompFilter.{CompFilter}
use Rattle.cal_model.specs.declared.filter.CompFilter.TheViews.{out-CompFilter}
use Rattle.cal_model.specs.Filters.ComponentRanges.{Matched, Site, sites_in, time_range_passes}
use Rattle.cal_model.specs.Filters.Matching.{comp_filter_holds, has_filter_name, prop_filter_holds}

-- a line has all that is asked of its parameters
abbrev pub line_holds : List ParamFilter → Line → Bool
line_holds filters line = param_filters_hold filters line.params

-- its value passes beside
abbrev pub line_passes : TextMatch → List ParamFilter → Line → Bool
line_passes test filters line = text_passes test line.value && param_filters_hold filters line.params

-- a date lies in a range, and its line has all that is asked of its parameters
abbrev pub date_passes : Range → List ParamFilter → DatedLine → Bool
date_passes range filters date = is_in range date.moment && param_filters_hold filters date.params

-- its name, its range and its properties
abbrev pub passes_itself : Matched → CompFilter → Site → Bool
passes_itself matched filter site =
    has_filter_name (out-CompFilter filter).name site
    && time_range_passes matched (out-CompFilter filter).time site
    && list_all (prop_filter_holds matched site) (out-CompFilter filter).props

-- the components in it hold these comp-filters
abbrev pub inner_hold : Matched → List CompFilter → Site → Bool
inner_hold matched filters site = list_all (λ (inner : CompFilter). comp_filter_holds matched inner (sites_in site)) filters

-- all that a comp-filter asks of a component
abbrev pub passes_whole : Matched → CompFilter → Site → Bool
passes_whole matched filter site = passes_itself matched filter site && inner_hold matched (out-CompFilter filter).comps site
