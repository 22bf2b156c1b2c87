use Rattle.std.proofs.Common.{◌≡◌, [], ◌∷◌, Some, None, sym, ap, ◌∙◌}
use Rattle.std.specs.Prelude.{option_map}
use Rattle.std.specs.Option.{option_copied}
use Rattle.cal_model.specs.Objects.ObjectReading.{first_there}
use Rattle.cal_model.specs.Refusals.ChangeRefusals.{no_room}
use Rattle.cal_model.specs.Refusals.Preconditions.{uid_conflict}
use Rattle.cal_model.specs.Refusals.RefusalReplies.{refuse, refusal_reply}
use Rattle.cal_model.specs.Replies.ReplyForms.{tagged_reply}
use Rattle.cal_model.specs.State.Changes.{put}
use Rattle.cal_book.specs.Showing.ShownStates.{shown_state}
use Rattle.cal_book.specs.Checking.Places.{may_read, path_beside}
use Rattle.cal_book.specs.Checking.Rows.{conflict_row, holder_name, is_full_at}
use Rattle.cal_book.proofs.Checking.RowLemmas.{conflict_row_by, uid_read, refusal_told, told_behind}
use Rattle.cal_book.proofs.changes.put.put_fine.Goals as goal

pub returns-in-Some : goal.returns-in-Some
returns-in-Some c within into =
    let target = c.args.target.now in
    let octets = c.args.octets.now in
    let full = no_room (is_full_at (shown_state c.args.view.now) target.place.home c.args.size) ∷ [] in
    let holder = c.holder_of.ensures within octets into (uid_read octets c.args.object c.requires.reading ∙ ap Some (sym c.as_slice.ensures)) in
    let named : holder_name within.objects target.object.now octets ≡ Some c.in-Some.name.now = sym holder ∙ ap option_copied c.in-Some.is in
    refusal_told (conflict_row target within octets ∷ full) (put target.place.home target.place.calendar.now target.object.now octets) (tagged_reply target.status octets)
    (refusal_reply (uid_conflict (may_read target) (path_beside target c.in-Some.name.now))) c.conflict.result
    (ap (λ row. first_there (row ∷ full)) (conflict_row_by target within octets ∙ ap (λ name. refuse (option_map (λ n. uid_conflict (may_read target) (path_beside target n)) name)) named))
    c.conflict.ensures

pub returns-in-None : goal.returns-in-None
returns-in-None c within into =
    let target = c.args.target.now in
    let octets = c.args.octets.now in
    let full = no_room (is_full_at (shown_state c.args.view.now) target.place.home c.args.size) ∷ [] in
    let holder = c.holder_of.ensures within octets into (uid_read octets c.args.object c.requires.reading ∙ ap Some (sym c.as_slice.ensures)) in
    let nobody : holder_name within.objects target.object.now octets ≡ None = sym holder ∙ ap option_copied c.in-None.is in
    told_behind (conflict_row target within octets) full (put target.place.home target.place.calendar.now target.object.now octets) (tagged_reply target.status octets) c.put_free.result
    (conflict_row_by target within octets ∙ ap (λ name. refuse (option_map (λ n. uid_conflict (may_read target) (path_beside target n)) name)) nobody)
    c.put_free.ensures
