-- The calendar that a report is about, where no shared row refuses the report: it is there, and what is seen of it is what is seen at its path.
use Rattle.std.proofs.Common.{◌≡◌, ℕ, true, false, List, Option, Some, None, refl, sym, ap, ◌∙◌, subst}
use Rattle.std.specs.Prelude.{option_map, option_and_then, IsSome, IfSome}
use Rattle.std.specs.Borrow.{Bor}
use Rattle.std.specs.Option.{option_map_or}
use Rattle.cal_model.specs.declared.path.Path.{Path}
use Rattle.cal_model.specs.declared.path.Path.TheVariants.{Calendar as CalendarPath}
use Rattle.cal_model.specs.declared.report.ReportRequest.{ReportRequest}
use Rattle.cal_model.specs.declared.report.ReportRequest.TheVariants.{Query, Multiget, FreeBusy}
use Rattle.cal_model.specs.declared.request.Content.{Content}
use Rattle.cal_model.specs.declared.request.Content.TheVariants as content
use Rattle.cal_model.specs.declared.store.CalendarData.{CalendarData}
use Rattle.cal_model.specs.Access.Privileges.{has_all}
use Rattle.cal_model.specs.History.Origins.{Origins}
use Rattle.cal_model.specs.Serving.SeenResources.{scene_seen}
use Rattle.cal_model.specs.Sight.Scenes.{Scene as Sighted, at_both, calendar_in, held_in, scene_at, visible_home}
use Rattle.cal_model.specs.Sight.Views.{Sight, seen_by}
use Rattle.cal_model.specs.State.ServerState.{Directory, ServerState, calendar_at}
use Rattle.cal_model.specs.State.StoredData.{data_at}
use Rattle.cal_model.proofs.History.ReplayLaws.{user_name-number}
use Rattle.cal_model.proofs.Sight.CalendarSights.{some_calendar}
use Rattle.dav_reports.specs.CalendarObjects.{entries_cost, objects_concerned}
use Rattle.dav_reports.specs.PieceRows.{Held}
use Rattle.dav_reports.specs.ReportOutcomes.{calendar_scene, privilege_needed}
use Rattle.cal_book.specs.Answering.ReadingCost.{cost_of, report_in}
use Rattle.request_checks.specs.declared.scenes.Scene.{Scene}
use Rattle.request_checks.specs.Scenes.{IsScene}
use Rattle.request_checks.specs.Sightings.{IsDataAt, user_seen}

pub no_privilege : (report : ReportRequest) → has_all 0 (privilege_needed report) ≡ false
no_privilege (Query props select filter timezone) = refl
no_privilege (Multiget props select hrefs) = refl
no_privilege (FreeBusy range) = refl

-- where something is held, a calendar is seen
held_somewhere : (sight : Option Sight) (privilege : ℕ) → has_all 0 privilege ≡ false → has_all (option_map_or (λ (s : Sight). s.held) sight 0) privilege ≡ true → sight ≡ None → ⊥
held_somewhere sight privilege some held none =
    let never : has_all 0 privilege ≡ true = ap (λ (seen : Option Sight). has_all (option_map_or (λ (s : Sight). s.held) seen 0) privilege) (sym none) ∙ held in
    let absurdly : false ≡ true = sym some ∙ never in absurd cc

not_seen : (sight : Option Sight) → None ≡ option_map (λ (s : Sight). s.held) sight → sight ≡ None
not_seen None none = refl
not_seen (Some s) none = absurd cc

module _ (directory : Directory) (state : ServerState) (who : ℕ) (path : Path) where
  pub path-seen : (scene_seen directory state who path).path ≡ path
  unfolding scene_at
  path-seen = refl

  pub user-seen : (scene_seen directory state who path).user ≡ user_seen directory path
  unfolding scene_at
  user-seen = refl

  calendar-seen : (scene_seen directory state who path).calendar ≡ at_both (option_and_then (visible_home (seen_by directory state who) who) (user_seen directory path)) (calendar_in path)
  unfolding scene_at
  calendar-seen = refl

  -- who holds what a report needs knows whose calendar it is
  pub owner-known : (report : ReportRequest) → has_all (held_in (scene_seen directory state who path)) (privilege_needed report) ≡ true → (scene_seen directory state who path).user ≡ None → ⊥
  owner-known report held none =
      held_somewhere (scene_seen directory state who path).calendar (privilege_needed report) (no_privilege report) held
      (calendar-seen ∙ ap (λ user. at_both (option_and_then (visible_home (seen_by directory state who) who) user) (calendar_in path)) (sym user-seen ∙ none))

  -- and that is whose name the path has
  pub scene-named : (user name : List ℕ) (home : ℕ) → path ≡ CalendarPath user name → user_seen directory path ≡ Some home
      → calendar_scene directory state who home name ≡ scene_seen directory state who path
  scene-named user name home is known =
      ap (scene_seen directory state who)
      (ap (λ owner. CalendarPath owner name) (user_name-number directory user home (ap (user_seen directory) (sym is) ∙ known)) ∙ sym is)

-- what is lent of a calendar is that of one that is there
pub calendar-there : (directory : Directory) (state : ServerState) (shown : Scene) (seen : Sighted) (path : Path) (user name : List ℕ) (home : ℕ) (report : ReportRequest)
    → IsScene shown seen → IfSome shown.calendar (λ p. IsDataAt state shown.user (calendar_in path) p.1.now)
    → path ≡ CalendarPath user name → shown.user ≡ Some home → has_all (held_in seen) (privilege_needed report) ≡ true
    → IsSome (calendar_at state home name)
calendar-there directory state shown seen path user name home report is kept at owner held = by shown.calendar is.calendar kept where
  by : (calendar : Option (ℕ × Bor CalendarData))
      → option_map (λ (p : ℕ × Bor CalendarData). p.0) calendar ≡ option_map (λ (sight : Sight). sight.held) seen.calendar
      → IfSome calendar (λ p. IsDataAt state shown.user (calendar_in path) p.1.now)
      → IsSome (calendar_at state home name)
  by None told none = absurd (held_somewhere seen.calendar (privilege_needed report) (no_privilege report) held (not_seen seen.calendar told))
  by (Some p) told here =
      let kept_there : data_at state home name ≡ Some p.1.now =
      subst (λ (place : Option ℕ × Path). IsDataAt state place.0 (calendar_in place.1) p.1.now) (λ i. (owner i, at i)) here in
      subst IsSome (sym (some_calendar state home name p.1.now (sym kept_there)).1) refl

-- what the report costs that is asked for there
pub cost-run : (held : Held) (origins : Origins) (directory : Directory) (state : ServerState) (found : Option ℕ) (path : Path) (asked : Content) (home : ℕ) (user name : List ℕ) (report : ReportRequest)
    → found ≡ Some home → path ≡ CalendarPath user name → asked ≡ content.Report report
    → cost_of held origins directory state found (calendar_in path) (report_in asked) ≡ entries_cost held report (origins home name) (objects_concerned directory state home name report)
cost-run held origins directory state found path asked home user name report owner at what = λ i. cost_of held origins directory state (owner i) (calendar_in (at i)) (report_in (what i))
