use Rattle.std.proofs.Common.{◌≡◌, ◌||◌, List, [], ◌∷◌, None, refl, sym, ap, ◌∙◌, false}
use Rattle.std.specs.Prelude.{codes, is_some}
use Rattle.std.proofs.lemmas.Bool.{false≢true}
use Rattle.cal_model.specs.declared.property.PropSet.{PropSet}
use Rattle.cal_model.specs.declared.reply.Reply.{Reply}
use Rattle.cal_model.specs.Bodies.Refusals.{dav_refusal}
use Rattle.cal_model.specs.Properties.Settings.{first_fault}
use Rattle.cal_model.specs.Refusals.ChangeRefusals.{no_room}
use Rattle.cal_model.specs.Refusals.RefusalReplies.{when, refuse, refusal_reply}
use Rattle.cal_model.specs.Replies.BareReplies.{bare_reply}
use Rattle.cal_model.specs.Serving.EventReplies.{reply_to_change}
use Rattle.cal_model.specs.Serving.Outcomes.{accepted_status, is_reading}
use Rattle.cal_model.specs.Sight.Scenes.{user_in, calendar_in}
use Rattle.cal_model.specs.State.Changes.{make, change_of_calendar}
use Rattle.cal_model.proofs.State.SoundLaws.{home_there}
use Rattle.cal_book.specs.Showing.ShownStates.{shown_directory, shown_state}
use Rattle.cal_book.specs.Checking.Passed.{sighted}
use Rattle.cal_book.specs.Checking.Rows.{is_full_at, has_all_calendars_at}
use Rattle.cal_book.proofs.Checking.PassedLemmas.{user_there}
use Rattle.cal_book.proofs.Checking.PlaceLemmas.{sound_at, some_lent}
use Rattle.cal_book.proofs.Checking.RowLemmas.{make_rows_are, own_told, told_behind}
use Rattle.cal_book.proofs.Checking.ChangeLemmas.{calendar_named, user_known, change_of_calendar_is}
use Rattle.cal_book.proofs.changes.make.make.Goals as goal

pub unreachable-requires : goal.unreachable-requires
unreachable-requires c =
    false≢true (sym (ap is_some c.in_default-user.is)
    ∙ user_there (shown_directory c.args.view.now) (shown_state c.args.view.now) c.args.scene.now c.args.request.now c.requires.passed (ap is_reading c.requires.method))

pub make_fine-requires : goal.make_fine-requires
make_fine-requires c =
    let directory = shown_directory c.args.view.now in
    let state = shown_state c.args.view.now in
    let shown = c.args.scene.now in
    let passed = c.requires.passed in
    let home = c.in-Some.home in
    let sound = sound_at directory state shown c.args.request.now passed home c.in-Calendar.name c.in-Some.is (ap calendar_in c.in-Calendar.is) in
    let known = user_known directory state shown.who shown.path.now home c.in-Calendar.field-0 (sym passed.scene.user ∙ c.in-Some.is) (ap user_in c.in-Calendar.is) in
    record { home = ap is_some (home_there directory state c.in-Calendar.field-0 home sound known).1 }

pub returns-in-Fine : goal.returns-in-Fine
returns-in-Fine c =
    let directory = shown_directory c.args.view.now in
    let state = shown_state c.args.view.now in
    let shown = c.args.scene.now in
    let request = c.args.request.now in
    let passed = c.requires.passed in
    let scene = sighted directory state shown in
    let home = c.in-Some.home in
    let name = c.in-Calendar.name in
    let user = c.in-Calendar.field-0 in
    let sets = c.in-Make.sets in
    let reply = c.in-Fine.reply in
    let at = sym passed.path_is ∙ c.in-Calendar.is in
    let seen = sym passed.scene.user ∙ c.in-Some.is in
    let known = user_known directory state shown.who shown.path.now home user seen (ap user_in c.in-Calendar.is) in
    let absent : is_some scene.calendar ≡ false =
    sym (some_lent _ scene.calendar) ∙ sym (ap is_some passed.scene.calendar) ∙ some_lent _ shown.calendar ∙ sym c.is_some.ensures ∙ c.if-is_some.false in
    let no_fault : first_fault sets ≡ None = sym (ap (λ (s : List PropSet). first_fault s) c.as_slice.ensures) ∙ c.in-Fine.ensures.checked.no_fault in
    let replied : reply ≡ bare_reply 201 = c.in-Fine.ensures.checked.reply_is in
    let must_be_null = refusal_reply (dav_refusal (codes "resource-must-be-null")) in
    let full = no_room (has_all_calendars_at state home || is_full_at state home request.size) in
    let change = make home name sets request.size in
    own_told directory state scene request (when (is_some scene.calendar) must_be_null ∷ refuse (first_fault sets) ∷ full ∷ []) change reply c.make_fine.result
    (make_rows_are state scene request sets home c.requires.method c.in-Make.is seen)
    (change_of_calendar_is directory request home user name at known ∙ (λ i. change_of_calendar (c.requires.method i) (c.in-Make.is i) home name request.size))
    (ap (λ (r : Reply). r.status) replied ∙ sym (ap (accepted_status scene) c.requires.method))
    (replied ∙ sym (ap (λ (r : Reply). bare_reply r.status) replied) ∙ sym (ap (reply_to_change reply.status request) c.in-Make.is))
    refl
    (calendar_named request.path user name at passed.asked.bookable.path)
    (told_behind (when (is_some scene.calendar) must_be_null) (refuse (first_fault sets) ∷ full ∷ []) change reply c.make_fine.result (ap (λ b. when b must_be_null) absent)
    (told_behind (refuse (first_fault sets)) (full ∷ []) change reply c.make_fine.result (ap refuse no_fault) c.make_fine.ensures))
