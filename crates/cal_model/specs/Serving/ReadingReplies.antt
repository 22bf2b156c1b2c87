-- The replies to requests that only read (RFC 9110, 9.3.1, 9.3.2 and 9.3.7; RFC 4918, 9.1; RFC 3253, 3.6).
-- Given: what the caller sees of the request's path, the moment, and the request. Each reply is a function of these, and of nothing else; the state is no argument.
use Rattle.std.specs.Prelude.{ℕ, Bool, true, false, ◌&&◌, nat_lt, if◌then◌else◌, List, [], ◌∷◌, ◌++◌, length, map, flat_map, option_to_list, is_some, Option, Some, None, option_and_then, unwrap_or, ℤ, codes}
use Rattle.cal_base.specs.Lists.NameMap.{Named}
use Rattle.cal_model.specs.declared.path.Path.{Path}
use Rattle.cal_model.specs.declared.path.Path.TheVariants as path
use Rattle.cal_model.specs.declared.property.Props.{Props}
use Rattle.cal_model.specs.declared.reply.Media.TheVariants.{Calendar as CalendarMedia}
use Rattle.cal_model.specs.declared.reply.Reply.{Reply}
use Rattle.cal_model.specs.declared.report.ReportRequest.{ReportRequest}
use Rattle.cal_model.specs.declared.report.ReportRequest.TheVariants.{Query, Multiget, FreeBusy}
use Rattle.cal_model.specs.declared.request.Content.{Content}
use Rattle.cal_model.specs.declared.request.Content.TheVariants as content
use Rattle.cal_model.specs.declared.request.Method.{Method}
use Rattle.cal_model.specs.declared.request.Method.TheVariants.{Options, Get, Head, Propfind, Report}
use Rattle.cal_model.specs.declared.request.Request.{Request}
use Rattle.cal_model.specs.Objects.ObjectReading.{first_there}
use Rattle.cal_model.specs.Sight.Views.{Contents, Sight}
use Rattle.cal_model.specs.State.ServerState.{group_number}
use Rattle.cal_model.specs.Replies.BareReplies.{bare_reply}
use Rattle.cal_model.specs.Replies.ReplyForms.{no_request, tagged_reply, options_reply}
use Rattle.cal_model.specs.Refusals.RefusalReplies.{refusal_reply, when, refuse}
use Rattle.cal_model.specs.Bodies.Refusals.{dav_refusal}
use Rattle.cal_model.specs.Sight.Resources.{Resource, root, principal, group, home, calendar, object, Asker}
use Rattle.cal_model.specs.Properties.PropertyReplies.{resource_response, multistatus_reply}
use Rattle.cal_model.specs.Serving.ReportReplies.{Reported, zone_of_report, query_reply, multiget_reply, free_busy_reply}
use Rattle.cal_model.specs.Refusals.ReportRefusals.{report_faults}
use Rattle.cal_model.specs.Refusals.RequestLimits.{answer_limit}
use Rattle.cal_model.specs.Sight.Scenes.{Scene, user_in, calendar_in}
use Rattle.cal_model.specs.Refusals.SharedRefusals.{shared_rows}

-- GET and HEAD (RFC 9110, 9.3.1)
abbrev pub get_reply : Scene → Reply
get_reply scene = elim scene.object [
  | None ↦ bare_reply 404
  | Some octets ↦ record (tagged_reply 200 octets) { media = CalendarMedia; body = octets }
]

-- the resource at a path
abbrev pub resources_at : Scene → Path → List Resource
resources_at scene path.Root = root ∷ []
resources_at scene (path.Principal name) = (if is_some (group_number scene.directory name) then group name else principal name) ∷ []
resources_at scene (path.Home user) = home user ∷ []
resources_at scene (path.Calendar user name) = map (calendar user name) (option_to_list scene.calendar)
resources_at scene (path.Object user within name) =
    flat_map (λ sight. map (object user within name sight) (option_to_list scene.object)) (option_to_list scene.calendar)

-- its members: the calendars of a home that are visible, and the objects of a calendar where read is held
abbrev pub objects_seen : Sight → Named (List ℕ)
objects_seen sight = flat_map (λ (contents : Contents). contents.objects) (option_to_list sight.contents)

abbrev pub members_at : Scene → Path → List Resource
members_at scene (path.Home user) =
    flat_map (λ calendars. map (λ (entry : List ℕ × Sight). calendar user entry.0 entry.1) calendars) (option_to_list scene.home)
members_at scene (path.Calendar user name) =
    flat_map (λ sight. map (λ (entry : List ℕ × List ℕ). object user name entry.0 sight entry.1) (objects_seen sight)) (option_to_list scene.calendar)
members_at scene other = []

abbrev pub asker_in : Scene → Asker
asker_in scene = record { directory = scene.directory; who = scene.who; shown = None }

-- RFC 4918, 9.1: the resource, and with depth 1 its members behind it
abbrev pub find_reply : Scene → Props → Bool → Reply
find_reply scene props deep = multistatus_reply
    (flat_map (resource_response (asker_in scene) props) (resources_at scene scene.path ++ (if deep then members_at scene scene.path else [])))

-- a calendar whose contents are seen
abbrev pub reported_by : Scene → Sight → Contents → Reported
reported_by scene sight contents = record {
  asker = asker_in scene;
  owner = unwrap_or (user_in scene.path) [];
  name = unwrap_or (calendar_in scene.path) [];
  sight = sight;
  contents = contents;
}

abbrev pub reply_over : ReportRequest → Reported → Reply
reply_over (Query props select filter zone) within = query_reply within props select filter (zone_of_report (Query props select filter zone) within.contents)
reply_over (Multiget props select hrefs) within = multiget_reply within props select hrefs (zone_of_report (Multiget props select hrefs) within.contents)
reply_over (FreeBusy range) within = no_request

abbrev pub reply_over_contents : Scene → ReportRequest → Reply
reply_over_contents scene report = elim scene.calendar [
  | None ↦ no_request
  | Some sight ↦ elim sight.contents [ None ↦ no_request | Some contents ↦ reply_over report (reported_by scene sight contents) ]
]

abbrev pub report_reply : Scene → ℤ → ReportRequest → Reply
report_reply scene moment (FreeBusy range) =
    elim (option_and_then (λ (sight : Sight). sight.busy) scene.calendar) [ None ↦ no_request | Some class ↦ free_busy_reply moment class range ]
report_reply scene moment report = reply_over_contents scene report

-- the answer to a request that only reads, refusals aside
abbrev pub content_reply : Scene → ℤ → Content → Reply
content_reply scene moment (content.Find props deep) = find_reply scene props deep
content_reply scene moment (content.Report report) = report_reply scene moment report
content_reply scene moment other = no_request

abbrev pub answer_of : Scene → ℤ → Request → Method → Reply
answer_of scene moment request Options = options_reply scene.path
answer_of scene moment request Get = get_reply scene
answer_of scene moment request Head = get_reply scene
answer_of scene moment request other = content_reply scene moment request.content

-- the rows of a report; and the answer of a PROPFIND or a report may be too long
abbrev pub report_rows : Content → List (Option Reply)
report_rows (content.Report report) = map refuse (report_faults report)
report_rows other = []

abbrev pub may_be_long : Method → Bool
may_be_long Propfind = true
may_be_long Report = true
may_be_long other = false

abbrev pub too_long : Method → Reply → Option Reply
too_long method reply = when (may_be_long method && nat_lt answer_limit (length reply.body))
    (refusal_reply (dav_refusal (codes "number-of-matches-within-limits")))

-- The reply to a request that only reads: the first row of the table, or else the answer. It is a function of what the caller sees.
unfoldable pub reading_reply : Scene → ℤ → Request → Reply
reading_reply scene moment request =
    let answered = answer_of scene moment request request.method in
    unwrap_or (first_there (shared_rows scene request ++ (report_rows request.content ++ (too_long request.method answered ∷ [])))) answered
