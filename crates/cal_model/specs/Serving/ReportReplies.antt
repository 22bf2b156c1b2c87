-- The answers of the three reports (RFC 4791, 7.8 to 7.10). All rows of each object are looked at; nothing here knows of windows or pieces.
-- Given: a calendar as its caller sees it, and a report that is not refused.
use Rattle.std.specs.Prelude.{ℕ, Bool, false, ◌&&◌, if◌then◌else◌, List, filter, flat_map, bytes_eq, Option, Some, None, option_map, option_and_then, ℤ}
use Rattle.std.specs.Result.{result_ok}
use Rattle.cal_base.specs.Lists.NameMap.{value_at}
use Rattle.cal_model.specs.declared.filter.Filter.{Filter}
use Rattle.cal_model.specs.declared.object.Class.{Class}
use Rattle.cal_model.specs.declared.path.Path.{Path}
use Rattle.cal_model.specs.declared.path.Path.TheVariants as path
use Rattle.cal_model.specs.declared.property.Props.{Props}
use Rattle.cal_model.specs.declared.reply.Reply.{Reply}
use Rattle.cal_model.specs.declared.report.ReportRequest.{ReportRequest}
use Rattle.cal_model.specs.declared.row.Range.{Range}
use Rattle.cal_model.specs.declared.selection.Selection.{Selection}
use Rattle.cal_model.specs.declared.zone.ZoneTable.{ZoneTable}
use Rattle.cal_model.specs.Selections.ShownData.{shown_of_object}
use Rattle.cal_model.specs.Reports.FloatingZone.{floating_zone}
use Rattle.cal_model.specs.Busy.FreeBusyText.{free_busy_text}
use Rattle.cal_model.specs.Filters.Matching.{matches_object}
use Rattle.cal_model.specs.Objects.ObjectReading.{read_zone}
use Rattle.cal_model.specs.Busy.BusyRuns.{runs_of_classes}
use Rattle.cal_model.specs.Properties.PropertyReplies.{status_response, resource_response, multistatus_reply}
use Rattle.cal_model.specs.Paths.TargetPaths.{target_path}
use Rattle.cal_model.specs.Sight.Resources.{Asker, object}
use Rattle.cal_model.specs.Replies.ReplyForms.{calendar_reply}
use Rattle.cal_model.specs.Sight.Views.{Contents, Sight}
use Rattle.cal_model.specs.State.ServerState.{object_of, own_zone}
use Rattle.cal_model.specs.Refusals.ReportRefusals.{zone_text}

-- the zone in which floating times are read
abbrev pub zone_of_report : ReportRequest → Contents → ZoneTable
zone_of_report report contents = floating_zone (option_and_then (λ text. result_ok (read_zone text)) (zone_text report)) (own_zone contents.texts)

-- stored octets match a filter
abbrev pub octets_match : Filter → ZoneTable → List ℕ → Bool
octets_match filter zone octets = elim (object_of octets) [ None ↦ false | Some found ↦ matches_object filter found zone ]

-- what is shown of stored octets
abbrev pub shown_octets : Selection → ZoneTable → List ℕ → List ℕ
shown_octets select zone octets = elim (object_of octets) [ None ↦ octets | Some found ↦ shown_of_object octets found select zone ]

-- a calendar that a report is about, and who asks for it
pub record Reported : Type 0 where
  pub asker : Asker
  pub owner : List ℕ
  pub name : List ℕ
  pub sight : Sight
  pub contents : Contents

-- what is said of one object of it
abbrev pub object_response : Reported → Selection → ZoneTable → Props → List ℕ × List ℕ → List ℕ
object_response reported select zone props entry =
    resource_response (record reported.asker { shown = Some (shown_octets select zone) }) props (object reported.owner reported.name entry.0 reported.sight entry.1)

-- the name of an object of this calendar, where an href names one
abbrev pub own_object : Reported → Path → Option (List ℕ)
own_object reported (path.Object owner calendar name) = if bytes_eq owner reported.owner && bytes_eq calendar reported.name then Some name else None
own_object reported other = None

abbrev pub object_at : Reported → List ℕ → Option (List ℕ × List ℕ)
object_at reported href =
    option_and_then (λ name. option_map (λ octets. (name, octets)) (value_at reported.contents.objects name)) (option_and_then (own_object reported) (target_path href))

-- an href of a multiget: an object of the calendar, or 404 with the href as it was sent
abbrev pub href_response : Reported → Selection → ZoneTable → Props → List ℕ → List ℕ
href_response reported select zone props href = elim (object_at reported href) [
  | None ↦ status_response href 404
  | Some entry ↦ object_response reported select zone props entry
]

-- RFC 4791, 7.8: the objects that match, by name
abbrev pub query_reply : Reported → Props → Selection → Filter → ZoneTable → Reply
query_reply reported props select wanted zone = multistatus_reply
    (flat_map (object_response reported select zone props) (filter (λ (entry : List ℕ × List ℕ). octets_match wanted zone entry.1) reported.contents.objects))

-- RFC 4791, 7.9: the objects at some hrefs, in their order
abbrev pub multiget_reply : Reported → Props → Selection → List (List ℕ) → ZoneTable → Reply
multiget_reply reported props select hrefs zone = multistatus_reply (flat_map (href_response reported select zone props) hrefs)

-- RFC 4791, 7.10: when the calendar is busy, by the class of each second alone
abbrev pub free_busy_reply : ℤ → (ℤ → Option Class) → Range → Reply
free_busy_reply moment class range = calendar_reply (free_busy_text moment range (runs_of_classes class range))
