use Rattle.std.proofs.Common.{ℕ, List, refl, arith, inl, inr, subst}
use Rattle.cal_base.specs.World.Outside.{Adds}
use Rattle.cal_book.specs.Cores.{directory_in, state_in}
use Rattle.caldav_server.specs.SlotEnds.{WroteFront, asked_in}
use Rattle.caldav_server.proofs.SlotBooks.{front_end, printed_end, unseen_end, word_end}
use Rattle.caldav_server.proofs.slot.slot_in_book.Goals as goal

pub returns-in-Ok-write_all-clause-seen : goal.returns-in-Ok-write_all-clause-seen
returns-in-Ok-write_all-clause-seen g c =
    let book = c.args.book.now in
    let written = g.O.Sink.written c.args.output.now in
    let after = g.O.Sink.written c.write_all.new.sink in
    rw c.without_place.ensures (printed_end (directory_in book) (state_in book) (asked_in c.args.said.now) written after c.in-Ok.text c.in-Ok.ensures
    (subst (λ (text : List ℕ). Adds written text after) c.as_slice.ensures c.in-Ok-write_all.ensures.whole))

pub returns-in-Ok-write_all-clause-output_fault : goal.returns-in-Ok-write_all-clause-output_fault
returns-in-Ok-write_all-clause-output_fault g c = rw c.without_place.ensures (λ is. absurd (omega (arith, is)))

pub returns-in-Ok-write_all-clause-quiet : goal.returns-in-Ok-write_all-clause-quiet
returns-in-Ok-write_all-clause-quiet g c = rw c.without_place.ensures (inl refl)

pub returns-in-Ok-clause-seen : goal.returns-in-Ok-clause-seen
returns-in-Ok-clause-seen g c =
    let book = c.args.book.now in
    let written = g.O.Sink.written c.args.output.now in
    let after = g.O.Sink.written c.write_all.new.sink in
    rw c.without_place-in-Err.ensures (front_end (directory_in book) (state_in book) (asked_in c.args.said.now) written after c.in-Ok.text c.in-Ok.ensures
    (subst (WroteFront written after) c.as_slice.ensures c.write_all.ensures.front))

pub returns-in-Ok-clause-output_fault : goal.returns-in-Ok-clause-output_fault
returns-in-Ok-clause-output_fault g c = λ is. c.in-Err.ensures.failed

pub returns-in-Ok-clause-quiet : goal.returns-in-Ok-clause-quiet
returns-in-Ok-clause-quiet g c = rw c.without_place-in-Err.ensures (inr (inl refl))

pub returns-in-Err-Word-clause-seen : goal.returns-in-Err-Word-clause-seen
returns-in-Err-Word-clause-seen g c =
    let book = c.args.book.now in
    let written = g.O.Sink.written c.args.output.now in
    word_end (directory_in book) (state_in book) (asked_in c.args.said.now) written written c.in-Err-Word.place (rw c.in-Err-Word.field-0-is at c.in-Err-Word.ensures)

pub returns-in-Err-Word-clause-output_fault : goal.returns-in-Err-Word-clause-output_fault
returns-in-Err-Word-clause-output_fault g c = λ is. absurd (omega (arith, is))

pub returns-in-Err-Word-clause-quiet : goal.returns-in-Err-Word-clause-quiet
returns-in-Err-Word-clause-quiet g c = inr (inr refl)

pub returns-clause-seen : goal.returns-clause-seen
returns-clause-seen g c =
    let book = c.args.book.now in
    let written = g.O.Sink.written c.args.output.now in
    rw c.without_place-in-Err-NoMemory.ensures (unseen_end (directory_in book) (state_in book) (asked_in c.args.said.now) written written)

pub returns-clause-output_fault : goal.returns-clause-output_fault
returns-clause-output_fault g c = rw c.without_place-in-Err-NoMemory.ensures (λ is. absurd (omega (arith, is)))

pub returns-clause-quiet : goal.returns-clause-quiet
returns-clause-quiet g c = rw c.without_place-in-Err-NoMemory.ensures (inr (inr refl))
