use Rattle.std.proofs.Common.{◌≡◌, ◌∷◌, ◌++◌, [], sym, ap, ◌∙◌, subst, arith}
use Rattle.cal_model.specs.History.Journal.{entry_of}
use Rattle.cal_model.specs.History.KeptChanges.{kept_change}
use Rattle.cal_model.specs.History.LiveObjects.{ends}
use Rattle.cal_journal.specs.KeptEntries.{kept_entry}
use Rattle.cal_book.specs.Keeping.KeptHistories.{origins_in}
use Rattle.cal_book.specs.EndedObjects.{IsWithout, without_object}
use Rattle.cal_book.proofs.StepLemmas.{replaced-within, without-replaced, step-pieces, step-kept}
use Rattle.cal_book.proofs.making.make.Goals as goal

pub end-requires : goal.end-requires
end-requires g c origin e =
    let history = c.args.history.now in
    let within = replaced-within history.journal (origins_in history) c.entries-entries.ensures.step.live (kept_change c.args.change) origin (sym c.replaced-origin.ensures ∙ e) in
    let size = c.requires.kept.entries in
    omega (arith, within, size)

pub returns-clause-pieces : goal.returns-clause-pieces
returns-clause-pieces g c =
    let history = c.args.history.now in
    let old = c.args.claims.now in
    let entry = entry_of c.args.event.now (kept_change c.args.change) c.args.status in
    let entered : c.accept.new.self.journal ≡ history.journal ++ entry ∷ [] = c.in_ok-accept.ensures.entries ∙ ap (λ e. history.journal ++ kept_entry e ∷ []) c.entry.ensures in
    let without = subst (IsWithout history.journal (λ placed. ends placed (kept_change c.args.change)) old)
    (ap (λ origin. without_object origin old) (sym c.replaced-origin.ensures) ∙ sym c.end.ensures.board)
    (without-replaced history.journal (origins_in history) c.entries-entries.ensures.step.live old c.requires.kept (kept_change c.args.change) c.requires.adds) in
    step-pieces history.journal c.accept.new.self.journal entry old c.end.new.claims c.note.new.claims c.makes-made.result entered c.requires.kept without c.makes-made.ensures c.note.ensures

pub returns-clause-kept : goal.returns-clause-kept
returns-clause-kept g c =
    let history = c.args.history.now in
    let old = c.args.claims.now in
    let entry = entry_of c.args.event.now (kept_change c.args.change) c.args.status in
    let entered : c.accept.new.self.journal ≡ history.journal ++ entry ∷ [] = c.in_ok-accept.ensures.entries ∙ ap (λ e. history.journal ++ kept_entry e ∷ []) c.entry.ensures in
    let without = subst (IsWithout history.journal (λ placed. ends placed (kept_change c.args.change)) old)
    (ap (λ origin. without_object origin old) (sym c.replaced-origin.ensures) ∙ sym c.end.ensures.board)
    (without-replaced history.journal (origins_in history) c.entries-entries.ensures.step.live old c.requires.kept (kept_change c.args.change) c.requires.adds) in
    step-kept history.journal c.accept.new.self.journal entry old c.end.new.claims c.note.new.claims c.makes-made.result entered c.requires.kept without c.makes-made.ensures c.note.ensures
