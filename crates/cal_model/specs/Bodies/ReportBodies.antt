-- The bodies of REPORT (RFC 4791, 7.8 to 7.10, 9.5, 9.10 and 9.11; RFC 3253, 3.6): what each asks for, and the table of its refusals.
-- Given: the root of a body. Gives: the report, or its first refusal. A refusal is a test of all elements of a kind that are looked at, wherever they stand; the value is read beside it as if nothing were wrong.
use Rattle.std.specs.Prelude.{Bool, false, ◌||◌, if◌then◌else◌, List, [], ◌∷◌, map, filter, flat_map, take, slice_get, codes, Some, None, option_map}
use Rattle.std.specs.List.{list_any}
use Rattle.cal_base.specs.declared.element.Element.{Element}
use Rattle.cal_model.specs.declared.report.ReportRequest.{ReportRequest}
use Rattle.cal_model.specs.declared.report.ReportRequest.TheVariants.{Query, Multiget, FreeBusy}
use Rattle.cal_model.specs.declared.request.Content.{Content}
use Rattle.cal_model.specs.declared.request.Content.TheVariants.{Report, Bad}
use Rattle.cal_model.specs.declared.selection.Selection.{Selection}
use Rattle.cal_model.specs.Words.Namespaces.{dav, caldav}
use Rattle.cal_model.specs.Words.Lists.{is_empty}
use Rattle.cal_model.specs.Bodies.Refusals.{bad_request, dav_refusal, caldav_refusal, Row, first_row}
use Rattle.cal_model.specs.Bodies.ElementParts.{has_name, named, own_text, each, only}
use Rattle.cal_model.specs.Bodies.RangeElements.{is_bad_range, stated}
use Rattle.cal_model.specs.Bodies.FilterElements.{comp_filter, prop_filters, filter_texts, is_invalid_filter, is_unsupported_filter, has_nameless_filter, has_other_collation}
use Rattle.cal_model.specs.Bodies.DataElements.{selection_of, data_ranges, has_both_limits, is_unsupported_data, all_data, has_nameless_pick}
use Rattle.cal_model.specs.Bodies.AskedProperties.{asked_props, props_of}

-- the first calendar-data among the properties that are named
abbrev pub asked_data : Element → List Element
asked_data root = take 1 (flat_map (each (codes "calendar-data")) (filter (has_name dav (codes "prop")) (asked_props root)))

-- what it asks for, and all where there is none
abbrev pub selection_by : List Element → Selection
selection_by [] = all_data
selection_by (element ∷ more) = selection_of element

-- Refusals

-- the rows of a calendar-query or a calendar-multiget with these outermost filters and this calendar-data: all of 400 stand before those of 403
abbrev pub report_rows : Bool → List Element → List Element → List Row
report_rows lacks_part tops selections =
    (lacks_part || list_any has_nameless_filter tops || list_any has_nameless_pick selections || list_any has_both_limits selections, bad_request)
    ∷ (list_any is_invalid_filter tops || list_any is_bad_range (flat_map data_ranges selections), caldav_refusal (codes "valid-filter"))
    ∷ (list_any is_unsupported_filter (flat_map prop_filters tops), caldav_refusal (codes "supported-filter"))
    ∷ (list_any has_other_collation (flat_map filter_texts tops), caldav_refusal (codes "supported-collation"))
    ∷ (list_any is_unsupported_data selections, caldav_refusal (codes "supported-calendar-data"))
    ∷ []

-- the report, unless a row applies: the first one is the refusal
abbrev pub report_unless : List Row → ReportRequest → Content
report_unless rows report = elim (first_row rows) [ None ↦ Report report | Some refusal ↦ Bad refusal ]

-- Reports

-- calendar-query (9.5), with its outermost comp-filter
abbrev pub query_with : Element → List Element → Content
query_with root [] = Bad bad_request
query_with root (top ∷ more) =
    report_unless (report_rows false (top ∷ []) (asked_data root))
    (Query (props_of root) (selection_by (asked_data root)) (record { top = comp_filter top }) (option_map own_text (slice_get (only (codes "timezone") root) 0)))

abbrev pub query_content : Element → Content
query_content root = query_with root (flat_map (only (codes "comp-filter")) (only (codes "filter") root))

-- calendar-multiget (9.10)
abbrev pub multiget_content : Element → Content
multiget_content root =
    let hrefs = named dav (codes "href") root in
    report_unless (report_rows (is_empty hrefs) [] (asked_data root)) (Multiget (props_of root) (selection_by (asked_data root)) (map own_text hrefs))

-- free-busy-query (9.11), with its range
abbrev pub free_busy_with : List Element → Content
free_busy_with [] = Bad bad_request
free_busy_with (range ∷ more) =
    report_unless ((is_bad_range range, caldav_refusal (codes "valid-filter")) ∷ []) (FreeBusy (stated range))

abbrev pub free_busy_content : Element → Content
free_busy_content root = free_busy_with (only (codes "time-range") root)

-- a report by its root's name (RFC 3253, 3.6)
unfoldable pub report_content : Element → Content
report_content root =
    if has_name caldav (codes "calendar-query") root then query_content root
    else if has_name caldav (codes "calendar-multiget") root then multiget_content root
    else if has_name caldav (codes "free-busy-query") root then free_busy_content root
    else Bad (dav_refusal (codes "supported-report"))
