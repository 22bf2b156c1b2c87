use Rattle.std.proofs.Common.{◌≡◌, ◌∙◌, ℕ, List, refl, inl, inr, ap, subst, arith}
use Rattle.std.specs.Prelude.{IfSome}
use Rattle.clap.specs.Words.{Text}
use Rattle.cal_script.specs.UsersTaken.{IsRefusedAt}
use Rattle.command_words.specs.SlotSaid.{IsSaidBy}
use Rattle.command_words.specs.SlotWords.{TakesSlot, users_path}
use Rattle.caldav_server.proofs.SlotAnswers.{done, in_part, not_taken, users_taken, word_refused}
use Rattle.caldav_server.proofs.SlotFiles.{only_read}
use Rattle.caldav_server.proofs.slot.run_slot.Goals as goal

pub returns-in-Ok-clause-words_taken : goal.returns-in-Ok-clause-words_taken
returns-in-Ok-clause-words_taken g c = inr (inr (subst TakesSlot c.as_slice.ensures c.in-Ok.ensures.taken))

pub returns-in-Ok-clause-words_refused : goal.returns-in-Ok-clause-words_refused
returns-in-Ok-clause-words_refused g c = λ is. absurd (c.slot_of_files.ensures.known.1 is)

pub returns-in-Ok-clause-words_first : goal.returns-in-Ok-clause-words_first
returns-in-Ok-clause-words_first g c = λ is. absurd (c.slot_of_files.ensures.known.1 is)

pub returns-in-Ok-clause-users_refused : goal.returns-in-Ok-clause-users_refused
returns-in-Ok-clause-users_refused g c = λ is.
    let path = c.in-Ok.ensures.said.users_are ∙ ap (λ (words : List Text). users_path words) c.as_slice.ensures in
    subst (λ (at : List ℕ). IfSome (g.F.Files.content c.args.files.now at) (λ octets. IsRefusedAt octets c.slot_of_files.result.0.place)) path (c.slot_of_files.ensures.users_refused is)

pub returns-in-Ok-clause-journal_fault : goal.returns-in-Ok-clause-journal_fault
returns-in-Ok-clause-journal_fault g c = λ is.
    let ran = c.slot_of_files in
    let said = subst (λ (words : List Text). IsSaidBy words c.in-Ok.said) c.as_slice.ensures c.in-Ok.ensures.said in
    let taken = users_taken g.D.Disk.past g.D.Disk.faults c.args.words.now c.in-Ok.said (g.F.Files.content c.args.files.now) c.args.disk ran.result.1 (g.O.Sink.written c.args.output.now) (g.O.Sink.written ran.new.output) ran.result.0 said ran.ensures.behind is in
    (ran.ensures.journal_fault is, taken.0, taken.1)

pub returns-in-Ok-clause-journal_refused : goal.returns-in-Ok-clause-journal_refused
returns-in-Ok-clause-journal_refused g c = λ is.
    let ran = c.slot_of_files in
    let said = subst (λ (words : List Text). IsSaidBy words c.in-Ok.said) c.as_slice.ensures c.in-Ok.ensures.said in
    not_taken g.D.Disk.past g.D.Disk.faults c.args.words.now c.in-Ok.said (g.F.Files.content c.args.files.now) c.args.disk ran.result.1 (g.O.Sink.written c.args.output.now) (g.O.Sink.written ran.new.output) ran.result.0 said ran.ensures.behind is

pub returns-in-Ok-clause-word_refused : goal.returns-in-Ok-clause-word_refused
returns-in-Ok-clause-word_refused g c = λ is.
    let ran = c.slot_of_files in
    let said = subst (λ (words : List Text). IsSaidBy words c.in-Ok.said) c.as_slice.ensures c.in-Ok.ensures.said in
    let unchanged : ran.new.output ≡ c.args.output.now = elim ran.ensures.quiet [
      | inl zero ↦ absurd (omega (arith, zero, is))
      | inr more ↦ elim more [ inl five ↦ absurd (omega (arith, five, is)) | inr same ↦ same ]
    ] in
    word_refused g.D.Disk.past g.D.Disk.faults c.args.words.now c.in-Ok.said (g.F.Files.content c.args.files.now) c.args.disk ran.result.1 (g.O.Sink.written c.args.output.now) (g.O.Sink.written ran.new.output) ran.result.0 said
    (ran.new.output ≡ c.args.output.now) unchanged ran.ensures.behind is

pub returns-in-Ok-clause-done : goal.returns-in-Ok-clause-done
returns-in-Ok-clause-done g c = λ is.
    let ran = c.slot_of_files in
    let said = subst (λ (words : List Text). IsSaidBy words c.in-Ok.said) c.as_slice.ensures c.in-Ok.ensures.said in
    done g.D.Disk.past g.D.Disk.faults c.args.words.now c.in-Ok.said (g.F.Files.content c.args.files.now) c.args.disk ran.result.1 (g.O.Sink.written c.args.output.now) (g.O.Sink.written ran.new.output) ran.result.0 said ran.ensures.behind is

pub returns-in-Ok-clause-in_part : goal.returns-in-Ok-clause-in_part
returns-in-Ok-clause-in_part g c = λ is.
    let ran = c.slot_of_files in
    let said = subst (λ (words : List Text). IsSaidBy words c.in-Ok.said) c.as_slice.ensures c.in-Ok.ensures.said in
    in_part g.D.Disk.past g.D.Disk.faults c.args.words.now c.in-Ok.said (g.F.Files.content c.args.files.now) c.args.disk ran.result.1 (g.O.Sink.written c.args.output.now) (g.O.Sink.written ran.new.output) ran.result.0 said ran.ensures.behind is

pub returns-in-Err-Words-clause-only_read : goal.returns-in-Err-Words-clause-only_read
returns-in-Err-Words-clause-only_read g c = inr (only_read _ _ (inl refl))

pub returns-in-Err-NoMemory-clause-only_read : goal.returns-in-Err-NoMemory-clause-only_read
returns-in-Err-NoMemory-clause-only_read g c = inr (only_read _ _ (inl refl))
