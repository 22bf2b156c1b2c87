-- What a report that is not refused is like, seen at the report itself: proper ranges where they may stand, `is-not-defined` alone, VCALENDAR outermost, some href.
-- Given: a report. The law says that each report that a body is read to is sound.
use Rattle.std.specs.Prelude.{◌≡◌, ℕ, Bool, true, not, ◌&&◌, if◌then◌else◌, List, bytes_eq, codes, Option, Some, None, is_none, int_lt, IsTrue}
use Rattle.std.specs.List.{list_any, list_all}
use Rattle.cal_base.specs.declared.element.Element.{Element}
use Rattle.cal_model.specs.declared.filter.PropTest.{PropTest}
use Rattle.cal_model.specs.declared.filter.PropTest.TheVariants.{Absent as NoProp, Defined as SomeProp, Time, Text as PropText}
use Rattle.cal_model.specs.declared.filter.PropFilter.{PropFilter}
use Rattle.cal_model.specs.declared.filter.CompFilter.{CompFilter}
use Rattle.cal_model.specs.declared.filter.CompFilter.TheOpen.{CompFilter-F}
use Rattle.cal_model.specs.declared.filter.CompFilter.TheViews.{out-CompFilter}
use Rattle.cal_model.specs.declared.filter.CompFilter.TheFolds.{fold-CompFilter}
use Rattle.cal_model.specs.declared.report.ReportRequest.{ReportRequest}
use Rattle.cal_model.specs.declared.report.ReportRequest.TheVariants.{Query, Multiget, FreeBusy}
use Rattle.cal_model.specs.declared.request.Content.TheVariants.{Report}
use Rattle.cal_model.specs.declared.row.Range.{Range}
use Rattle.cal_model.specs.declared.selection.Recur.{Recur}
use Rattle.cal_model.specs.declared.selection.Recur.TheVariants.{Whole, Expand, Limit}
use Rattle.cal_model.specs.declared.selection.Selection.{Selection}
use Rattle.cal_model.specs.Words.Lists.{is_empty}
use Rattle.cal_model.specs.Bodies.ReportBodies.{report_content}
use Rattle.cal_model.specs.Bodies.FilterElements.{ranged_components, dated_properties}

-- its end lies after its start
abbrev pub is_proper : Range → Bool
is_proper range = int_lt range.start.0 range.end.0

abbrev pub is_proper_if_some : Option Range → Bool
is_proper_if_some None = true
is_proper_if_some (Some range) = is_proper range

-- Filters

abbrev pub is_of : List (List ℕ) → List ℕ → Bool
is_of names name = list_any (bytes_eq name) names

abbrev pub test_is_sound : List ℕ → Bool → PropTest → Bool
test_is_sound name alone NoProp = alone
test_is_sound name alone SomeProp = true
test_is_sound name alone (Time range) = is_proper range && is_of dated_properties name
test_is_sound name alone (PropText text) = true

abbrev pub prop_is_sound : PropFilter → Bool
prop_is_sound filter = test_is_sound filter.name (is_empty filter.params) filter.test

abbrev pub time_is_sound : List ℕ → Option Range → Bool
time_is_sound name None = true
time_is_sound name (Some range) = is_proper range && is_of ranged_components name

-- one level: `is-not-defined` stands alone, and each part is sound
abbrev pub sound_step : CompFilter-F Bool → Bool
sound_step filter =
    (if filter.absent then is_none filter.time && (is_empty filter.props && is_empty filter.comps) else true)
    && (time_is_sound filter.name filter.time && (list_all prop_is_sound filter.props && list_all (λ (sound : Bool). sound) filter.comps))

abbrev pub comp_is_sound : CompFilter → Bool
comp_is_sound = fold-CompFilter Bool sound_step

abbrev pub filter_name : CompFilter → List ℕ
filter_name filter = (out-CompFilter filter).name

-- Selections

abbrev pub recur_is_sound : Recur → Bool
recur_is_sound Whole = true
recur_is_sound (Expand range) = is_proper range
recur_is_sound (Limit range) = is_proper range

abbrev pub selection_is_sound : Selection → Bool
selection_is_sound select = recur_is_sound select.recur && is_proper_if_some select.busy

-- Reports

abbrev pub report_is_sound : ReportRequest → Bool
report_is_sound (Query props select filter timezone) = bytes_eq (filter_name filter.top) (codes "VCALENDAR") && (comp_is_sound filter.top && selection_is_sound select)
report_is_sound (Multiget props select hrefs) = not (is_empty hrefs) && selection_is_sound select
report_is_sound (FreeBusy range) = is_proper range

-- The law: each report that is read is sound
abbrev pub ReportsAreSound : Type 0
ReportsAreSound = (root : Element) (report : ReportRequest) → report_content root ≡ Report report → IsTrue (report_is_sound report)
