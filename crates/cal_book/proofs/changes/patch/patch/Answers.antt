use Rattle.std.proofs.Common.{◌≡◌, List, [], ◌∷◌, refl, sym, ap, ◌∙◌, false}
use Rattle.cal_model.specs.declared.property.PropSet.{PropSet}
use Rattle.cal_model.specs.declared.reply.Reply.{Reply}
use Rattle.cal_model.specs.declared.store.CalendarData.{CalendarData}
use Rattle.cal_model.specs.Properties.PropertyReplies.{setting_answers, settings_reply}
use Rattle.cal_model.specs.Properties.Settings.{faults_of_all}
use Rattle.cal_model.specs.Refusals.ChangeRefusals.{no_room, some_fault}
use Rattle.cal_model.specs.Refusals.RefusalReplies.{when}
use Rattle.cal_model.specs.Refusals.SharedRefusals.{makes_or_asks}
use Rattle.cal_model.specs.Serving.EventReplies.{all_set, reply_to_change}
use Rattle.cal_model.specs.Serving.Outcomes.{accepted_status, is_reading}
use Rattle.cal_model.specs.State.Changes.{patch, change_of_calendar}
use Rattle.cal_book.specs.Showing.ShownStates.{shown_directory, shown_state}
use Rattle.cal_book.specs.Checking.Passed.{sighted}
use Rattle.cal_book.specs.Checking.Rows.{is_full_at}
use Rattle.cal_book.proofs.Checking.PassedLemmas.{is_of_calendars, all_there}
use Rattle.cal_book.proofs.Checking.RowLemmas.{faults_row, patch_rows_are, own_told, told_behind}
use Rattle.cal_book.proofs.Checking.ChangeLemmas.{change_at_place}
use Rattle.cal_book.proofs.changes.patch.patch.Goals as goal

pub place_of-place-requires : goal.place_of-place-requires
place_of-place-requires c = record {
  there = all_there (shown_directory c.args.view.now) (shown_state c.args.view.now) c.args.scene.now c.args.request.now c.requires.passed (ap is_reading c.requires.method) (ap makes_or_asks c.requires.method);
}

pub returns-in-Fine : goal.returns-in-Fine
returns-in-Fine c =
    let directory = shown_directory c.args.view.now in
    let state = shown_state c.args.view.now in
    let shown = c.args.scene.now in
    let request = c.args.request.now in
    let passed = c.requires.passed in
    let scene = sighted directory state shown in
    let place = c.place_of-place.result in
    let is = c.place_of-place.ensures.place directory state request passed in
    let sets = c.in-Patch.sets in
    let reply = c.in-Fine.reply in
    let texts = is.within.texts in
    let taken = c.in-Fine.ensures.checked texts is.sound.texts_in_order (sym (ap (λ (kept : CalendarData). kept.texts) is.data_is)) in
    let faults = faults_of_all false texts sets in
    let no_fault : some_fault faults ≡ false = sym (ap (λ (s : List PropSet). some_fault (faults_of_all false texts s)) c.as_slice.ensures) ∙ taken.no_fault in
    let replied : reply ≡ settings_reply request.path (setting_answers (all_set sets) 200) =
    taken.reply_is ∙ ap (λ (s : List PropSet). settings_reply request.path (setting_answers (all_set s) 200)) c.as_slice.ensures in
    let full = no_room (is_full_at state place.home request.size) in
    let change = patch place.home place.calendar.now sets request.size in
    own_told directory state scene request (faults_row scene.path faults ∷ full ∷ []) change reply c.patch_fine.result
    (patch_rows_are directory state scene request sets place is c.requires.method c.in-Patch.is)
    (change_at_place directory state shown request passed (ap is_of_calendars c.requires.method) place is
    ∙ (λ i. change_of_calendar (c.requires.method i) (c.in-Patch.is i) place.home place.calendar.now request.size))
    (ap (λ (r : Reply). r.status) replied ∙ sym (ap (accepted_status scene) c.requires.method))
    (replied ∙ sym (ap (reply_to_change reply.status request) c.in-Patch.is))
    refl tt
    (told_behind (faults_row scene.path faults) (full ∷ []) change reply c.patch_fine.result
    (ap (λ b. when b (settings_reply scene.path (setting_answers faults 424))) no_fault) c.patch_fine.ensures)
