-- The answer to a report as it is said of what is seen at the path of a calendar.
use Rattle.std.proofs.Common.{◌≡◌, ℕ, Bool, true, false, cond, List, Option, Some, None, refl, sym, ap, ◌∙◌}
use Rattle.std.specs.Prelude.{ℤ, option_map, option_and_then}
use Rattle.std.specs.Option.{option_map_or}
use Rattle.std.proofs.lemmas.Map.Entries.{option_filter}
use Rattle.cal_base.specs.Lists.NameMap.{value_at}
use Rattle.cal_model.specs.declared.object.Class.{Class}
use Rattle.cal_model.specs.declared.reply.Reply.{Reply}
use Rattle.cal_model.specs.declared.report.ReportRequest.{ReportRequest}
use Rattle.cal_model.specs.declared.report.ReportRequest.TheVariants.{Query, Multiget, FreeBusy}
use Rattle.cal_model.specs.declared.row.Range.{Range}
use Rattle.cal_model.specs.Access.Privileges.{has_all, read, read_free_busy}
use Rattle.cal_model.specs.Busy.BusyTimes.{BusyTime}
use Rattle.cal_model.specs.Busy.FreeBusyText.{free_busy_text}
use Rattle.cal_model.specs.Replies.ReplyForms.{calendar_reply, no_request}
use Rattle.cal_model.specs.Reports.FloatingZone.{floating_zone}
use Rattle.cal_model.specs.Refusals.ReportRefusals.{zone_text}
use Rattle.cal_model.specs.Serving.ReadingReplies.{report_reply, reply_over, reply_over_contents, reported_by}
use Rattle.cal_model.specs.Serving.ReportReplies.{free_busy_reply}
use Rattle.cal_model.specs.Sight.Scenes.{Scene, at_both, held_in, scene_at, visible_home}
use Rattle.cal_model.specs.Sight.Views.{Contents, Sight, contents_of, held_on, only_where, seen_by, served_class, sight_of}
use Rattle.cal_model.specs.State.ServerState.{Calendar, Directory, Home, ServerState, calendar_at, home_at, own_zone, user_name, user_number}
use Rattle.cal_model.specs.State.SoundStates.{IsSound}
use Rattle.cal_model.specs.State.UserNames.{AreToldApart}
use Rattle.cal_model.proofs.Serving.FreeBusyLaws.{shown_runs_are_the_calendars}
use Rattle.cal_model.proofs.Sight.SceneLaws.{calendar_in-scene, holds_some}
use Rattle.cal_model.proofs.State.NameWalkLaws.{home-sound}
use Rattle.dav_reports.specs.ReportOutcomes.{HasServedRange, IsServedRange, MaySee, answer_body, busy_text, calendar_scene, privilege_needed, reply_of, zone_of_text}
use Rattle.dav_reports.specs.SeenCalendars.{reported_of}
use Rattle.dav_reports.proofs.SeenObjects.{owner_known}

-- The scene

-- the home of a calendar that is there
home_of : (state : ServerState) (home : ℕ) (name : List ℕ) (c : Calendar) → calendar_at state home name ≡ Some c → (h : Home) × (home_at state home ≡ Some h)
home_of state home name c there = by (home_at state home) there where
  by : (found : Option Home) → option_and_then (λ (h : Home). value_at h.calendars name) found ≡ Some c → (h : Home) × (found ≡ Some h)
  by None e = absurd cc
  by (Some h) e = (h, refl)

module _ (directory : Directory) (state : ServerState) (who home : ℕ) (name : List ℕ) (c : Calendar) where
  scene_has : (calendar_scene directory state who home name).calendar ≡ at_both (option_and_then (visible_home (seen_by directory state who) who) (user_number directory (user_name directory home))) (Some name)
  unfolding scene_at
  scene_has = refl

  -- what is seen of a calendar that is there
  seen_there : IsSound directory state → AreToldApart directory → calendar_at state home name ≡ Some c
      → (calendar_scene directory state who home name).calendar ≡ cond (holds_some directory home who c) (Some (sight_of directory home who c)) None
  seen_there sound told there =
      let h = home_of state home name c there in
      let within = owner_known directory state home name c sound there in
      scene_has
      ∙ ap (λ user. at_both (option_and_then (visible_home (seen_by directory state who) who) user) (Some name)) (told.own home within)
      ∙ calendar_in-scene (sight_of) directory state who home h.0 name h.1 (home-sound directory state home h.0 sound h.1).in_order
      ∙ ap (λ found. option_map (sight_of directory home who) (option_filter (holds_some directory home who) found)) there
      ∙ by (holds_some directory home who c)
    where
      by : (test : Bool) → option_map (sight_of directory home who) (cond test (Some c) None) ≡ cond test (Some (sight_of directory home who c)) None
      by true = refl
      by false = refl

  -- a privilege that is held on what is seen
  seen_held : (privilege : ℕ) → has_all 0 privilege ≡ false → IsSound directory state → AreToldApart directory → calendar_at state home name ≡ Some c
      → has_all (held_in (calendar_scene directory state who home name)) privilege ≡ true
      → ((calendar_scene directory state who home name).calendar ≡ Some (sight_of directory home who c)) × (has_all (held_on directory home who c) privilege ≡ true)
  seen_held privilege some sound told there held = by (holds_some directory home who c) (seen_there sound told there) where
    by : (test : Bool) → (calendar_scene directory state who home name).calendar ≡ cond test (Some (sight_of directory home who c)) None
        → ((calendar_scene directory state who home name).calendar ≡ Some (sight_of directory home who c)) × (has_all (held_on directory home who c) privilege ≡ true)
    by true e = (e, ap (λ (seen : Option Sight). has_all (option_map_or (λ (sight : Sight). sight.held) seen 0) privilege) (sym e) ∙ held)
    by false e =
        let none : has_all 0 privilege ≡ true = ap (λ (seen : Option Sight). has_all (option_map_or (λ (sight : Sight). sight.held) seen 0) privilege) (sym e) ∙ held in
        let never : false ≡ true = sym some ∙ none in absurd cc

  no_privilege : (request : ReportRequest) → has_all 0 (privilege_needed request) ≡ false
  no_privilege (Query props select filter timezone) = refl
  no_privilege (Multiget props select hrefs) = refl
  no_privilege (FreeBusy range) = refl

  -- who may ask for a report may see what it needs
  pub may_see : (request : ReportRequest) → IsSound directory state → AreToldApart directory → calendar_at state home name ≡ Some c
      → has_all (held_in (calendar_scene directory state who home name)) (privilege_needed request) ≡ true → MaySee directory state who home name (privilege_needed request) c
  may_see request sound told there held =
      record { there = there; holds = (seen_held (privilege_needed request) (no_privilege request) sound told there held).1 }

  -- The answers

  abbrev of_contents : Scene → ReportRequest → Sight → Option Contents → Reply
  of_contents scene report sight None = no_request
  of_contents scene report sight (Some contents) = reply_over report (reported_by scene sight contents)

  abbrev of_sight : Scene → ReportRequest → Option Sight → Reply
  of_sight scene report None = no_request
  of_sight scene report (Some sight) = of_contents scene report sight sight.contents

  over_contents : (report : ReportRequest) → (calendar_scene directory state who home name).calendar ≡ Some (sight_of directory home who c) → has_all (held_on directory home who c) read ≡ true
      → reply_over_contents (calendar_scene directory state who home name) report ≡ reply_over report (reported_of directory who home name c)
  unfolding scene_at
  over_contents report seen reads =
      ap (of_sight (calendar_scene directory state who home name) report) seen
      ∙ ap (λ b. of_contents (calendar_scene directory state who home name) report (sight_of directory home who c) (only_where b (contents_of c))) reads

  abbrev of_class : ℤ → Range → Option (ℤ → Option Class) → Reply
  of_class moment range None = no_request
  of_class moment range (Some class) = free_busy_reply moment class range

  over_busy : (moment : ℤ) (range : Range) → IsServedRange range → (calendar_scene directory state who home name).calendar ≡ Some (sight_of directory home who c) → has_all (held_on directory home who c) read_free_busy ≡ true
      → report_reply (calendar_scene directory state who home name) moment (FreeBusy range) ≡ calendar_reply (busy_text moment range c)
  over_busy moment range served seen reads =
      ap (λ (s : Option Sight). of_class moment range (option_and_then (λ (sight : Sight). sight.busy) s)) seen
      ∙ ap (λ b. of_class moment range (only_where b (served_class c))) reads
      ∙ ap (λ (found : List BusyTime). calendar_reply (free_busy_text moment range found)) (shown_runs_are_the_calendars c range served.start served.end)

  -- The answer to a report is the one of its body.
  pub answer_seen : (moment : ℤ) (request : ReportRequest) → HasServedRange request → IsSound directory state → AreToldApart directory → calendar_at state home name ≡ Some c
      → has_all (held_in (calendar_scene directory state who home name)) (privilege_needed request) ≡ true
      → reply_of request (answer_body directory who home name moment (floating_zone (zone_of_text (zone_text request)) (own_zone c.texts)) c request) ≡ report_reply (calendar_scene directory state who home name) moment request
  answer_seen moment (Query props select filter timezone) served sound told there held =
      let seen = seen_held read refl sound told there held in
      sym (over_contents (Query props select filter timezone) seen.0 seen.1)
  answer_seen moment (Multiget props select hrefs) served sound told there held =
      let seen = seen_held read refl sound told there held in
      sym (over_contents (Multiget props select hrefs) seen.0 seen.1)
  answer_seen moment (FreeBusy range) served sound told there held =
      let seen = seen_held read_free_busy refl sound told there held in
      sym (over_busy moment range served seen.0 seen.1)
