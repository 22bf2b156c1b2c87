-- What a report is answered, where its own rows refuse it and where they do not.
use Rattle.std.proofs.Common.{◌≡◌, ℕ, Bool, true, false, not, List, [], ◌∷◌, ◌++◌, map, Option, Some, None, refl, sym, ap, ◌∙◌, arith}
use Rattle.std.specs.Prelude.{Result, Ok, Err, is_ok, int_lt, codes, unwrap_or, option_and_then, if◌then◌else◌, IsTrue}
use Rattle.std.specs.Result.{result_ok}
use Rattle.std.proofs.lemmas.Int.{ints}
use Rattle.cal_base.specs.Lines.ComponentTrees.{or_else}
use Rattle.cal_model.specs.declared.reply.Refusal.{Refusal}
use Rattle.cal_model.specs.declared.reply.Reply.{Reply}
use Rattle.cal_model.specs.declared.report.ReportRequest.{ReportRequest}
use Rattle.cal_model.specs.declared.report.ReportRequest.TheVariants.{Query, Multiget, FreeBusy}
use Rattle.cal_model.specs.declared.request.Method.TheVariants.{Report}
use Rattle.cal_model.specs.declared.zone.ZoneTable.{ZoneTable}
use Rattle.cal_model.specs.Bodies.Refusals.{caldav_refusal}
use Rattle.cal_model.specs.Bodies.SoundReports.{report_is_sound}
use Rattle.cal_model.specs.Objects.ObjectReading.{Unread, first_there, read_zone}
use Rattle.cal_model.specs.Properties.Settings.{bad_zone}
use Rattle.cal_model.specs.Refusals.RefusalReplies.{refusal_reply, refuse, refused_where}
use Rattle.cal_model.specs.Refusals.ReportRefusals.{range_refusal, report_faults, zone_refusal, zone_text}
use Rattle.cal_model.specs.Reports.NamedRanges.{ranges_named}
use Rattle.cal_model.specs.Serving.ReadingReplies.{too_long}
use Rattle.cal_model.specs.TimeZones.TableBounds.{IsTable}
use Rattle.cal_model.specs.Words.Limits.{first_date, last_date}
use Rattle.cal_model.proofs.Objects.ServedDates.{not_before}
use Rattle.dav_reports.specs.declared.dates.Outside.{Outside}
use Rattle.dav_reports.specs.RangeDates.{IsFirst, first_refusal, refusal_of}
use Rattle.dav_reports.specs.ReportOutcomes.{HasServedRange, IsServedRange, unless_long, unless_outside, unless_refused, zone_given, zone_of_text, zone_read}
use Rattle.dav_reports.proofs.CalendarZones.{table_read}
use Rattle.dav_reports.proofs.FirstRanges.{first-cons, or_else-nothing}

-- The rows

rows_then : (os : List (Option Refusal)) (last : Option Reply) → first_there (map refuse os ++ (last ∷ [])) ≡ or_else (refuse (first_there os)) last
rows_then [] last = first-cons last [] ∙ or_else-nothing last
rows_then (None ∷ os) last = rows_then os last
rows_then (Some r ∷ os) last = refl

-- why the text of its zone refuses a report
abbrev pub zone_row : ReportRequest → Option Refusal
zone_row request = option_and_then zone_refusal (zone_text request)

by_rows : (request : ReportRequest) (answered : Reply)
    → unless_refused request answered ≡ unwrap_or (or_else (refuse (or_else (zone_row request) (first_refusal (ranges_named request)))) (too_long Report answered)) answered
by_rows request answered =
    ap (λ o. unwrap_or o answered)
    (rows_then (report_faults request) (too_long Report answered)
    ∙ ap (λ o. or_else (refuse o) (too_long Report answered)) (first-cons (zone_row request) (map range_refusal (ranges_named request))))

nested : (a b : Option Reply) (x : Reply) → unwrap_or (or_else a b) x ≡ unwrap_or a (unwrap_or b x)
nested None b x = refl
nested (Some r) b x = refl

passed_first : (request : ReportRequest) (answered : Reply) → zone_row request ≡ None → unless_outside request (unless_long answered) ≡ unless_refused request answered
passed_first request answered e =
    sym (by_rows request answered
    ∙ ap (λ o. unwrap_or (or_else (refuse (or_else o (first_refusal (ranges_named request)))) (too_long Report answered)) answered) e
    ∙ nested (refuse (first_refusal (ranges_named request))) (too_long Report answered) answered)

-- The zone

passed_text : (text : Option (List ℕ)) (own : Option ZoneTable) → Ok own ≡ zone_given text → option_and_then zone_refusal text ≡ None
passed_text None own e = refl
passed_text (Some text) own e = by (read_zone text) e where
  by : (reading : Result ZoneTable Unread) → Ok own ≡ zone_read reading → refused_where (not (is_ok reading)) bad_zone ≡ None
  by (Ok zone) e = refl
  by (Err why) e = absurd cc

pub zone_passed : (request : ReportRequest) (answered : Reply) (own : Option ZoneTable) → Ok own ≡ zone_given (zone_text request) → unless_outside request (unless_long answered) ≡ unless_refused request answered
zone_passed request answered own e = passed_first request answered (passed_text (zone_text request) own e)

-- the zone that a text gives, or another table
pub text_or_table : (text : Option (List ℕ)) (other : ZoneTable) → IsTable other → IsTable (unwrap_or (zone_of_text text) other)
text_or_table None other is = is
text_or_table (Some text) other is = by (read_zone text) refl where
  by : (reading : Result ZoneTable Unread) → read_zone text ≡ reading → IsTable (unwrap_or (result_ok reading) other)
  by (Ok zone) e = table_read text zone e
  by (Err why) e = is

pub or_else-or : (own kept : Option ZoneTable) (other : ZoneTable) → unwrap_or (or_else own kept) other ≡ unwrap_or own (unwrap_or kept other)
or_else-or None kept other = refl
or_else-or (Some zone) kept other = refl

-- The ranges

pub outside_refused : (request : ReportRequest) (outside : Outside) (other : Reply) → IsFirst (ranges_named request) (Some outside) → refusal_reply (refusal_of outside) ≡ unless_outside request other
outside_refused request outside other e = ap (λ r. unwrap_or (refuse r) other) e

pub inside_passed : (request : ReportRequest) (other : Reply) → IsFirst (ranges_named request) None → other ≡ unless_outside request other
inside_passed request other e = ap (λ r. unwrap_or (refuse r) other) e

-- a range that is not refused is served
pub range_served : (request : ReportRequest) → IsTrue (report_is_sound request) → IsFirst (ranges_named request) None → HasServedRange request
range_served (Query props select filter timezone) sound e = tt
range_served (Multiget props select hrefs) sound e = tt
range_served (FreeBusy range) sound e =
    by (int_lt range.start.0 first_date) (int_lt last_date range.end.0) refl refl (e ∙ first-cons (range_refusal range) [] ∙ or_else-nothing (range_refusal range))
  where
    by : (before behind : Bool) → int_lt range.start.0 first_date ≡ before → int_lt last_date range.end.0 ≡ behind
        → None ≡ (if before then Some (caldav_refusal (codes "min-date-time")) else refused_where behind (caldav_refusal (codes "max-date-time"))) → IsServedRange range
    by true behind a b e = absurd cc
    by false true a b e = absurd cc
    by false false a b e = record {
      start = not_before range.start.0 first_date a;
      proper = let proper : int_lt range.start.0 range.end.0 ≡ true = sound in grind (arith, ints);
      end = not_before last_date range.end.0 b;
    }
