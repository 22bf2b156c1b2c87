use Rattle.std.proofs.Common.{[], ◌∷◌, refl, sym, ap, ◌∙◌}
use Rattle.cal_model.specs.Refusals.ChangeRefusals.{no_room}
use Rattle.cal_model.specs.Refusals.SharedRefusals.{makes_or_asks}
use Rattle.cal_model.specs.Replies.BareReplies.{bare_reply}
use Rattle.cal_model.specs.Serving.EventReplies.{reply_to_change}
use Rattle.cal_model.specs.Serving.Outcomes.{accepted_status, is_reading}
use Rattle.cal_model.specs.State.Changes.{acl, change_of_calendar}
use Rattle.cal_book.specs.Showing.ShownStates.{shown_directory, shown_state}
use Rattle.cal_book.specs.Checking.Passed.{sighted}
use Rattle.cal_book.specs.Checking.Rows.{is_full_at}
use Rattle.cal_book.proofs.Checking.PassedLemmas.{is_of_calendars, all_there}
use Rattle.cal_book.proofs.Checking.RowLemmas.{acl_rows_are, own_told, told_behind}
use Rattle.cal_book.proofs.Checking.ChangeLemmas.{change_at_place, grants_to_users}
use Rattle.cal_book.proofs.changes.acl.acl.Goals as goal

pub place_of-place-requires : goal.place_of-place-requires
place_of-place-requires c = record {
  there = all_there (shown_directory c.args.view.now) (shown_state c.args.view.now) c.args.scene.now c.args.request.now c.requires.passed (ap is_reading c.requires.method) (ap makes_or_asks c.requires.method);
}

pub returns : goal.returns
returns c =
    let directory = shown_directory c.args.view.now in
    let state = shown_state c.args.view.now in
    let shown = c.args.scene.now in
    let request = c.args.request.now in
    let passed = c.requires.passed in
    let scene = sighted directory state shown in
    let place = c.place_of-place.result in
    let is = c.place_of-place.ensures.place directory state request passed in
    let grants = c.in-Acl.grants in
    let full = no_room (is_full_at state place.home request.size) in
    let change = acl place.home place.calendar.now grants request.size in
    own_told directory state scene request (full ∷ []) change (bare_reply 200) c.grant.result
    (acl_rows_are state scene request grants place.home c.requires.method c.in-Acl.is is.user_is)
    (change_at_place directory state shown request passed (ap is_of_calendars c.requires.method) place is
    ∙ (λ i. change_of_calendar (c.requires.method i) (c.in-Acl.is i) place.home place.calendar.now request.size))
    (sym (ap (accepted_status scene) c.requires.method))
    (sym (ap (reply_to_change 200 request) c.in-Acl.is))
    refl
    (grants_to_users directory passed.asked.users request.content grants passed.asked.users_are c.in-Acl.is passed.asked.bookable.grants)
    (told_behind full [] change (bare_reply 200) c.grant.result (ap no_room (sym c.is_full.ensures ∙ c.if-is_full.false)) c.grant.ensures)
