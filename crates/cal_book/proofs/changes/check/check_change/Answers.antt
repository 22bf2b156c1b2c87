use Rattle.std.proofs.Common.{ℕ, ◌<◌, length, Some, sym, ap, ◌∙◌, subst}
use Rattle.std.specs.Prelude.{IfSome}
use Rattle.std.specs.Borrow.{Bor}
use Rattle.cal_model.specs.declared.path.Path.{Path}
use Rattle.cal_model.specs.declared.store.CalendarData.{CalendarData}
use Rattle.cal_model.specs.Sight.Scenes.{Scene as Sighted, scene_at, calendar_in}
use Rattle.cal_model.specs.Sight.Views.{whole_sight, view_by}
use Rattle.cal_book.specs.Showing.ShownStates.{shown_directory, shown_state}
use Rattle.request_checks.specs.Scenes.{IsScene, IsFoundAt}
use Rattle.request_checks.specs.SharedReplies.{shared_reply}
use Rattle.request_checks.specs.Sightings.{IsDataAt, IsSoundAt}
use Rattle.cal_book.specs.Checking.Checks.{IsAskedOf}
use Rattle.cal_book.specs.Checking.OwnChecks.{IsOwnChecked}
use Rattle.cal_book.specs.Checking.Passed.{sighted}
use Rattle.cal_book.proofs.Checking.ChangeLemmas.{asker_known}
use Rattle.cal_book.proofs.Checking.OutcomeLemmas.{checked_refusal, checked_own}
use Rattle.cal_book.proofs.Checking.SceneLemmas.{scene_seen, who_seen, path_seen, room_for}
use Rattle.cal_book.proofs.changes.check.check_change.Goals as goal

pub scene_at-scene-requires : goal.scene_at-scene-requires
scene_at-scene-requires c =
    let directory = shown_directory c.args.seen.now.view.now in
    subst (λ (who : ℕ). who < length directory.names) (sym c.requires.who) (asker_known directory c.args.event.now.who c.args.event.now.request c.requires.bookable)

pub refused-requires : goal.refused-requires
refused-requires c =
    let directory = shown_directory c.args.seen.now.view.now in
    let state = shown_state c.args.seen.now.view.now in
    let path = c.args.event.now.request.path in
    let shown = c.scene_at-scene.result in
    let at = path_seen directory state c.args.seen.now.who path shown c.scene_at-scene.ensures.scene in
    record {
      fits = room_for path c.in-Some.refusal c.args.room.now
          (λ takes. c.scene_at-scene.ensures.names c.requires.names c.requires.bookable.bookable.path (subst (IsFoundAt shown) at (c.in-Some.ensures.found takes)))
          c.requires.room;
    }

pub check_own-requires-clause-passed : goal.check_own-requires-clause-passed
check_own-requires-clause-passed c =
    let directory = shown_directory c.args.seen.now.view.now in
    let state = shown_state c.args.seen.now.view.now in
    let who = c.args.seen.now.who in
    let request = c.args.event.now.request in
    let shown = c.scene_at-scene.result in
    let seen = c.scene_at-scene.ensures in
    let at = path_seen directory state who request.path shown seen.scene in
    let same = scene_seen directory state who request.path shown seen.scene in
    let scene = subst (IsScene shown) same seen.scene in
    record {
      path_is = at;
      scene = scene;
      passes = sym (c.in-None.ensures.row (sighted directory state shown) scene);
      known = seen.known;
      kept = subst (λ (path : Path). IfSome shown.calendar (λ (p : ℕ × Bor CalendarData). IsDataAt state shown.user (calendar_in path) p.1.now)) (sym at) seen.calendar;
      sound = subst (λ (path : Path). IsSoundAt shown.user (calendar_in path) directory state) (sym at) seen.sound;
      asked = subst (λ (n : ℕ). IsAskedOf directory n request) (sym (who_seen directory state who request.path shown seen.scene ∙ c.requires.who)) c.requires.bookable;
    }

pub returns-in-Some-clause-checked : goal.returns-in-Some-clause-checked
returns-in-Some-clause-checked c =
    let directory = shown_directory c.args.seen.now.view.now in
    let state = shown_state c.args.seen.now.view.now in
    let event = c.args.event.now in
    let shown = c.scene_at-scene.result in
    let scene = subst (λ (n : ℕ). IsScene shown (scene_at directory (view_by whole_sight directory state n) n event.request.path)) c.requires.who c.scene_at-scene.ensures.scene in
    let sight = scene_at directory (view_by whole_sight directory state event.who) event.who event.request.path in
    let at = sym scene.path ∙ path_seen directory state event.who event.request.path shown scene in
    checked_refusal directory state event c.requires.changing (shared_reply event.request.path c.in-Some.refusal) c.refused.result
    (sym (c.in-Some.ensures.row sight scene) ∙ ap (λ path. Some (shared_reply path c.in-Some.refusal)) at)
    c.refused.ensures.reply

pub returns-in-None-clause-checked : goal.returns-in-None-clause-checked
returns-in-None-clause-checked c =
    let directory = shown_directory c.args.seen.now.view.now in
    let state = shown_state c.args.seen.now.view.now in
    let event = c.args.event.now in
    let shown = c.scene_at-scene.result in
    let scene = subst (λ (n : ℕ). IsScene shown (scene_at directory (view_by whole_sight directory state n) n event.request.path)) c.requires.who c.scene_at-scene.ensures.scene in
    let sight = scene_at directory (view_by whole_sight directory state event.who) event.who event.request.path in
    checked_own directory state event c.requires.changing (sym (c.in-None.ensures.row sight scene)) c.check_own.result
    (subst (λ (s : Sighted). IsOwnChecked directory state s event.request c.check_own.result) (sym (scene_seen directory state event.who event.request.path shown scene)) c.check_own.ensures.checked)
