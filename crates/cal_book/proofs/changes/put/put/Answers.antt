use Rattle.std.proofs.Common.{◌≡◌, [], ◌∷◌, None, refl, sym, ap, ◌∙◌, subst}
use Rattle.cal_model.specs.declared.store.CalendarData.{CalendarData}
use Rattle.cal_model.specs.Refusals.ChangeRefusals.{no_room}
use Rattle.cal_model.specs.Refusals.Preconditions.{put_refusal, IsServable}
use Rattle.cal_model.specs.Refusals.RefusalReplies.{refuse}
use Rattle.cal_model.specs.Refusals.SharedRefusals.{makes_or_asks}
use Rattle.cal_model.specs.Replies.ReplyForms.{tagged_reply}
use Rattle.cal_model.specs.Serving.EventReplies.{reply_to_change}
use Rattle.cal_model.specs.Serving.Outcomes.{accepted_status, is_reading}
use Rattle.cal_model.specs.Sight.Scenes.{user_in}
use Rattle.cal_model.specs.State.Changes.{put, change_of_object}
use Rattle.cal_book.specs.Showing.ShownStates.{shown_directory, shown_state}
use Rattle.cal_book.specs.Checking.Passed.{sighted}
use Rattle.cal_book.specs.Checking.Rows.{conflict_row, is_full_at}
use Rattle.cal_book.proofs.Checking.PassedLemmas.{all_there}
use Rattle.cal_book.proofs.Checking.RowLemmas.{put_rows_there, put_rows_are, own_told, told_behind}
use Rattle.cal_book.proofs.Checking.ChangeLemmas.{object_named, user_known, change_of_object_is}
use Rattle.cal_book.proofs.changes.put.put.Goals as goal

pub target_of-target-requires-clause-there : goal.target_of-target-requires-clause-there
target_of-target-requires-clause-there c =
    all_there (shown_directory c.args.view.now) (shown_state c.args.view.now) c.args.scene.now c.args.request.now c.requires.passed (ap is_reading c.requires.method) (ap makes_or_asks c.requires.method)

pub returns-in-Fine : goal.returns-in-Fine
returns-in-Fine c =
    let directory = shown_directory c.args.view.now in
    let state = shown_state c.args.view.now in
    let shown = c.args.scene.now in
    let request = c.args.request.now in
    let passed = c.requires.passed in
    let scene = sighted directory state shown in
    let target = c.target_of-target.result in
    let is = c.target_of-target.ensures.target directory state request passed in
    let place = is.place in
    let octets = c.in-Put.octets in
    let media_ok = c.in-Put.media_ok in
    let here = sym passed.scene.path ∙ passed.path_is in
    let at = sym here ∙ is.path_is in
    let known = user_known directory state shown.who shown.path.now target.place.home target.user.now place.user_is (ap user_in (passed.scene.path ∙ is.path_is)) in
    let fine : put_refusal media_ok octets place.within.kinds ≡ None =
    (λ i. put_refusal media_ok (sym c.as_slice.ensures i) (ap (λ (kept : CalendarData). kept.kinds) place.data_is i)) ∙ c.in-Fine.ensures.first in
    let rest = conflict_row target place.within octets ∷ no_room (is_full_at state target.place.home request.size) ∷ [] in
    let change = put target.place.home target.place.calendar.now target.object.now octets in
    let reply = tagged_reply target.status octets in
    let servable = subst IsServable c.as_slice.ensures (record { object = c.in-Fine.object; reading = c.in-Fine.ensures.object.reading; few = c.in-Fine.ensures.object.few_instances }) in
    own_told directory state scene request (refuse (put_refusal media_ok octets place.within.kinds) ∷ rest) change reply c.put_fine.result
    (put_rows_are state scene request media_ok octets c.requires.method c.in-Put.is ∙ put_rows_there directory state scene target is request.size media_ok octets)
    (change_of_object_is directory request target.place.home target.user.now target.place.calendar.now target.object.now at known
    ∙ (λ i. change_of_object (c.requires.method i) (c.in-Put.is i) target.place.home target.place.calendar.now target.object.now))
    (is.status_is ∙ ap (accepted_status scene) (sym c.requires.method))
    (sym (ap (reply_to_change target.status request) c.in-Put.is))
    refl
    (object_named request.path target.user.now target.place.calendar.now target.object.now at passed.asked.bookable.path, servable)
    (told_behind (refuse (put_refusal media_ok octets place.within.kinds)) rest change reply c.put_fine.result (ap refuse fine) (c.put_fine.ensures place.within is.into))
