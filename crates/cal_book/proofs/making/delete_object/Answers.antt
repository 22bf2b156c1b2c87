use Rattle.std.proofs.Common.{false, refl, sym, ap, ◌∙◌, subst}
use Rattle.cal_model.specs.History.LiveObjects.{ends}
use Rattle.cal_model.specs.State.Changes.{delete_object}
use Rattle.cal_book.specs.Keeping.Deletions.{asked_entry}
use Rattle.cal_book.specs.Keeping.KeptHistories.{origins_in}
use Rattle.cal_book.specs.EndedObjects.{IsWithout, without_object}
use Rattle.cal_book.proofs.StepLemmas.{without-deleted, step-pieces, step-kept}
use Rattle.cal_book.proofs.making.delete_object.Goals as goal

pub returns-clause-pieces : goal.returns-clause-pieces
returns-clause-pieces g c =
    let history = c.args.history.now in
    let old = c.args.claims.now in
    let change = delete_object c.args.home c.args.calendar.now c.args.name.now in
    let without = subst (IsWithout history.journal (λ placed. ends placed (delete_object c.args.home c.args.calendar.now c.args.name.now)) old)
    (ap (λ origin. without_object origin old) (sym c.origin_at-origin.ensures) ∙ sym c.end.ensures.board)
    (without-deleted history.journal (origins_in history) c.entries-entries.ensures.step.live old c.requires.kept c.args.home c.args.calendar.now c.args.name.now) in
    step-pieces history.journal c.delete_object.new.self.journal (asked_entry c.asked.result change) old c.end.new.claims c.note.new.claims false c.delete_object.ensures.entries c.requires.kept without refl c.note.ensures

pub returns-clause-kept : goal.returns-clause-kept
returns-clause-kept g c =
    let history = c.args.history.now in
    let old = c.args.claims.now in
    let change = delete_object c.args.home c.args.calendar.now c.args.name.now in
    let without = subst (IsWithout history.journal (λ placed. ends placed (delete_object c.args.home c.args.calendar.now c.args.name.now)) old)
    (ap (λ origin. without_object origin old) (sym c.origin_at-origin.ensures) ∙ sym c.end.ensures.board)
    (without-deleted history.journal (origins_in history) c.entries-entries.ensures.step.live old c.requires.kept c.args.home c.args.calendar.now c.args.name.now) in
    step-kept history.journal c.delete_object.new.self.journal (asked_entry c.asked.result change) old c.end.new.claims c.note.new.claims false c.delete_object.ensures.entries c.requires.kept without refl c.note.ensures
