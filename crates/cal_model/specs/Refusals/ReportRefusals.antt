-- What refuses a report that was read (RFC 4791, 5.2.6, 5.2.7, 7.8 and 9.8): the text of its time zone, and then the first of its ranges that leaves the dates that are served.
-- Given: the report alone. That an answer is too long is told with the answer.
use Rattle.std.specs.Prelude.{ℕ, not, if◌then◌else◌, List, ◌∷◌, map, Option, Some, None, option_and_then, is_ok, int_lt, codes}
use Rattle.cal_model.specs.declared.reply.Refusal.{Refusal}
use Rattle.cal_model.specs.declared.report.ReportRequest.{ReportRequest}
use Rattle.cal_model.specs.declared.report.ReportRequest.TheVariants.{Query, Multiget, FreeBusy}
use Rattle.cal_model.specs.declared.row.Range.{Range}
use Rattle.cal_model.specs.Bodies.Refusals.{caldav_refusal}
use Rattle.cal_model.specs.Objects.ObjectReading.{read_zone}
use Rattle.cal_model.specs.Properties.Settings.{bad_zone}
use Rattle.cal_model.specs.Refusals.RefusalReplies.{refused_where}
use Rattle.cal_model.specs.Reports.NamedRanges.{ranges_named}
use Rattle.cal_model.specs.Words.Limits.{first_date, last_date}

-- the text of a time zone that a report has
abbrev pub zone_text : ReportRequest → Option (List ℕ)
zone_text (Query props select filter zone) = zone
zone_text (Multiget props select hrefs) = None
zone_text (FreeBusy range) = None

abbrev pub zone_refusal : List ℕ → Option Refusal
zone_refusal text = refused_where (not (is_ok (read_zone text))) bad_zone

-- a range that starts before the dates, or else ends behind them
abbrev pub range_refusal : Range → Option Refusal
range_refusal range =
    if int_lt range.start.0 first_date then Some (caldav_refusal (codes "min-date-time"))
    else refused_where (int_lt last_date range.end.0) (caldav_refusal (codes "max-date-time"))

-- the rows of a report
abbrev pub report_faults : ReportRequest → List (Option Refusal)
report_faults report = option_and_then zone_refusal (zone_text report) ∷ map range_refusal (ranges_named report)
