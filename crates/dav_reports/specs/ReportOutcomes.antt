-- What a report is answered with about a calendar that is there and that its caller may see so: a refusal by the report itself, or by the length of its answer, or the answer.
use Rattle.std.specs.Prelude.{◌≡◌, ℕ, true, List, [], ◌∷◌, ◌++◌, unwrap_or, option_and_then, ℤ, ◌≤ℤ◌, ◌<ℤ◌, Option, Some, None, Result, Ok, Err, codes}
use Rattle.std.specs.Result.{result_ok}
use Rattle.cal_model.specs.declared.path.Path.TheVariants.{Calendar as CalendarPath}
use Rattle.cal_model.specs.declared.reply.Refusal.{Refusal}
use Rattle.cal_model.specs.declared.reply.Reply.{Reply}
use Rattle.cal_model.specs.declared.report.ReportRequest.{ReportRequest}
use Rattle.cal_model.specs.declared.report.ReportRequest.TheVariants.{Query, Multiget, FreeBusy}
use Rattle.cal_model.specs.declared.request.Content.TheVariants.{Report as ReportOf}
use Rattle.cal_model.specs.declared.request.Method.TheVariants.{Report}
use Rattle.cal_model.specs.declared.row.Range.{Range}
use Rattle.cal_model.specs.declared.zone.ZoneTable.{ZoneTable}
use Rattle.cal_model.specs.Access.Privileges.{has_all, read, read_free_busy}
use Rattle.cal_model.specs.Bodies.Refusals.{dav_refusal}
use Rattle.cal_model.specs.Busy.BusyRuns.{calendar_runs}
use Rattle.cal_model.specs.Busy.FreeBusyText.{free_busy_text}
use Rattle.cal_model.specs.Objects.ObjectReading.{first_there, read_zone, Unread}
use Rattle.cal_model.specs.Properties.Settings.{bad_zone}
use Rattle.cal_model.specs.Replies.ReplyForms.{calendar_reply, xml_reply}
use Rattle.cal_model.specs.Refusals.RefusalReplies.{refuse}
use Rattle.cal_model.specs.Reports.FloatingZone.{floating_zone}
use Rattle.cal_model.specs.Reports.NamedRanges.{ranges_named}
use Rattle.cal_model.specs.Serving.ReadingReplies.{report_reply, report_rows, too_long}
use Rattle.cal_model.specs.Serving.ReportReplies.{query_reply, multiget_reply}
use Rattle.cal_model.specs.Serving.SeenResources.{scene_seen}
use Rattle.cal_model.specs.Sight.Scenes.{Scene}
use Rattle.cal_model.specs.Sight.Views.{held_on}
use Rattle.cal_model.specs.State.ServerState.{Calendar, Directory, ServerState, calendar_at, objects_of, own_zone, user_name}
use Rattle.cal_model.specs.Words.Limits.{first_date, last_date}
use Rattle.dav_reports.specs.RangeDates.{first_refusal}
use Rattle.dav_reports.specs.SeenCalendars.{IsBody, reported_of}

-- the privilege that a report needs (RFC 4791, 6.1.1 and 7.10)
abbrev pub privilege_needed : ReportRequest → ℕ
privilege_needed (FreeBusy range) = read_free_busy
privilege_needed other = read

-- the zone that a report has of its own, or why its text is refused (RFC 4791, 9.8)
abbrev pub zone_read : Result ZoneTable Unread → Result (Option ZoneTable) Refusal
zone_read (Ok zone) = Ok (Some zone)
zone_read (Err why) = Err bad_zone

abbrev pub zone_given : Option (List ℕ) → Result (Option ZoneTable) Refusal
zone_given None = Ok None
zone_given (Some text) = zone_read (read_zone text)

abbrev pub zone_of_text : Option (List ℕ) → Option ZoneTable
zone_of_text text = option_and_then (λ t. result_ok (read_zone t)) text

-- what stands at the path of a calendar
abbrev pub calendar_scene : Directory → ServerState → ℕ → ℕ → List ℕ → Scene
calendar_scene directory state who home name = scene_seen directory state who (CalendarPath (user_name directory home) name)

-- an answer, unless the report is refused for itself or for the length of that answer
abbrev pub unless_refused : ReportRequest → Reply → Reply
unless_refused request answered = unwrap_or (first_there (report_rows (ReportOf request) ++ (too_long Report answered ∷ []))) answered

-- The reply to a report that no row of the shared table refuses.
abbrev pub reply_to_report : Directory → ServerState → ℕ → ℕ → List ℕ → ℤ → ReportRequest → Reply
reply_to_report directory state who home name moment request = unless_refused request (report_reply (calendar_scene directory state who home name) moment request)

-- Within it

-- a range within the dates that are served
pub record IsServedRange (range : Range) : Type 0 where
  pub start : first_date ≤ℤ range.start.0
  pub proper : range.start.0 <ℤ range.end.0
  pub end : range.end.0 ≤ℤ last_date

-- the range of a query for busy times is
abbrev pub HasServedRange : ReportRequest → Type 0
HasServedRange (FreeBusy range) = IsServedRange range
HasServedRange other = Unit {0}

-- the text of the answer to a query for busy times
abbrev pub busy_text : ℤ → Range → Calendar → List ℕ
busy_text moment range c = free_busy_text moment range (calendar_runs (floating_zone None (own_zone c.texts)) (objects_of c.objects) range)

-- the body of the answer, floating times read in a zone; busy times are read in the calendar's own
abbrev pub answer_body : Directory → ℕ → ℕ → List ℕ → ℤ → ZoneTable → Calendar → ReportRequest → List ℕ
answer_body directory who home name moment zone c (Query props select filter timezone) = (query_reply (reported_of directory who home name c) props select filter zone).body
answer_body directory who home name moment zone c (Multiget props select hrefs) = (multiget_reply (reported_of directory who home name c) props select hrefs zone).body
answer_body directory who home name moment zone c (FreeBusy range) = busy_text moment range c

-- the answer of a body
abbrev pub reply_of : ReportRequest → List ℕ → Reply
reply_of (FreeBusy range) body = calendar_reply body
reply_of other body = xml_reply 207 body

-- an answer, unless it is too long
abbrev pub unless_long : Reply → Reply
unless_long answered = unwrap_or (too_long Report answered) answered

-- or unless one of its ranges leaves the dates that are served
abbrev pub unless_outside : ReportRequest → Reply → Reply
unless_outside request answered = unwrap_or (refuse (first_refusal (ranges_named request))) answered

-- the body of an answer, or none where it is too long
pub record IsBodyOf (request : ReportRequest) (answered : Reply) (body : Option (List ℕ)) : Type 0 where
  pub whole : List ℕ
  pub written : IsBody body whole
  pub answer : reply_of request whole ≡ answered

-- a calendar is there, and the user holds a privilege on it
pub record MaySee (directory : Directory) (state : ServerState) (who home : ℕ) (name : List ℕ) (privilege : ℕ) (calendar : Calendar) : Type 0 where
  pub there : calendar_at state home name ≡ Some calendar
  pub holds : has_all (held_on directory home who calendar) privilege ≡ true

-- RFC 4791, 7.8: why an answer that is too long is refused
abbrev pub refused_as_long : Refusal
refused_as_long = dav_refusal (codes "number-of-matches-within-limits")
