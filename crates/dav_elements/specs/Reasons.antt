-- Why a report is refused, and what is wrong with its calendar-data.
use Rattle.std.specs.Prelude.{Bool, ◌||◌, if◌then◌else◌, List, flat_map, codes, Option, Some, None}
use Rattle.std.specs.List.{list_any}
use Rattle.cal_base.specs.declared.element.Element.{Element}
use Rattle.cal_model.specs.declared.reply.Refusal.{Refusal}
use Rattle.cal_model.specs.Bodies.Refusals.{bad_request, caldav_refusal}
use Rattle.cal_model.specs.Bodies.RangeElements.{is_bad_range}
use Rattle.cal_model.specs.Bodies.DataElements.{data_ranges, has_both_limits, has_nameless_pick, is_unsupported_data}
use Rattle.dav_elements.specs.declared.reports.DataFaults.{DataFaults}
use Rattle.dav_elements.specs.declared.reports.Reason.{Reason}
use Rattle.dav_elements.specs.declared.reports.Reason.TheVariants.{BadRequest, InvalidFilter, UnsupportedFilter, Collation, UnsupportedData}

abbrev pub refusal_for : Reason → Refusal
refusal_for BadRequest = bad_request
refusal_for InvalidFilter = caldav_refusal (codes "valid-filter")
refusal_for UnsupportedFilter = caldav_refusal (codes "supported-filter")
refusal_for Collation = caldav_refusal (codes "supported-collation")
refusal_for UnsupportedData = caldav_refusal (codes "supported-calendar-data")

-- the first of the five that is there
abbrev pub refusal_by : Bool → Bool → Bool → Bool → Bool → Option Refusal
refusal_by bad invalid unsupported collation other_data =
    if bad then Some bad_request
    else if invalid then Some (caldav_refusal (codes "valid-filter"))
    else if unsupported then Some (caldav_refusal (codes "supported-filter"))
    else if collation then Some (caldav_refusal (codes "supported-collation"))
    else if other_data then Some (caldav_refusal (codes "supported-calendar-data"))
    else None

-- of the calendar-data that is asked for, one at most
unfoldable pub data_faults : List Element → DataFaults
data_faults selections = record {
  bad = list_any has_nameless_pick selections || list_any has_both_limits selections;
  range = list_any is_bad_range (flat_map data_ranges selections);
  unsupported = list_any is_unsupported_data selections;
}
