use Rattle.std.proofs.Common.{inl, inr, subst}
use Rattle.cal_book.specs.Cores.{Core, directory_in, state_in}
use Rattle.caldav_server.specs.SlotEnds.{IsSeenEnd, asked_in}
use Rattle.caldav_server.proofs.SlotFiles.{fault_end, kept_end, loaded_read, not_taken_end, only_read, seen_not_eight, without_memory}
use Rattle.caldav_server.proofs.slot.slot_of_octets.Goals as goal

pub returns-in-Ready-clause-end : goal.returns-in-Ready-clause-end
returns-in-Ready-clause-end g c =
    let kept = c.in-Ready.kept in
    let ran = c.slot_in_book-end in
    kept_end g.D.Disk.past g.D.Disk.faults c.args.users c.args.disk (asked_in c.args.said.now) kept c.into_disk.result (g.O.Sink.written c.args.output.now) (g.O.Sink.written ran.new.output) ran.result
    c.in-Ready.ensures.loaded c.requires.some
    (subst (λ (book : Core). IsSeenEnd (directory_in book) (state_in book) (asked_in c.args.said.now) (g.O.Sink.written c.args.output.now) (g.O.Sink.written ran.new.output) ran.result) c.book.ensures.book ran.ensures.seen)

pub returns-in-Ready-clause-only_read : goal.returns-in-Ready-clause-only_read
returns-in-Ready-clause-only_read g c =
    let kept = c.in-Ready.kept in
    rw c.into_disk.ensures (inr (loaded_read c.args.users kept.book.work.journal (g.D.Disk.past c.args.disk) (g.D.Disk.past kept.keeper.disk) c.requires.some c.in-Ready.ensures.loaded.stands))

pub returns-in-Ready-clause-journal_fault : goal.returns-in-Ready-clause-journal_fault
returns-in-Ready-clause-journal_fault g c = λ is. absurd (seen_not_eight c.slot_in_book-end.result.status c.slot_in_book-end.ensures.seen.known is)

pub returns-in-Refused-clause-end : goal.returns-in-Refused-clause-end
returns-in-Refused-clause-end g c =
    not_taken_end g.D.Disk.past g.D.Disk.faults c.args.users c.args.disk (asked_in c.args.said.now) c.in-Refused.disk c.in-Refused.place _ _ (inr (inl c.in-Refused.ensures.loaded))

pub returns-in-Refused-clause-only_read : goal.returns-in-Refused-clause-only_read
returns-in-Refused-clause-only_read g c = inr (only_read _ _ c.in-Refused.ensures.loaded.unwritten)

pub returns-in-Mismatch-clause-end : goal.returns-in-Mismatch-clause-end
returns-in-Mismatch-clause-end g c =
    let at = c.in-Mismatch in
    not_taken_end g.D.Disk.past g.D.Disk.faults c.args.users c.args.disk (asked_in c.args.said.now) at.disk at.place _ _ (inr (inr (at._kept, at._made, at.ensures.loaded)))

pub returns-in-Mismatch-clause-only_read : goal.returns-in-Mismatch-clause-only_read
returns-in-Mismatch-clause-only_read g c = inr (only_read _ _ c.in-Mismatch.ensures.loaded.unwritten)

pub returns-in-Failed-clause-end : goal.returns-in-Failed-clause-end
returns-in-Failed-clause-end g c = rw c.without_place.ensures (fault_end g.D.Disk.past g.D.Disk.faults c.args.users c.args.disk (asked_in c.args.said.now) c.in-Failed.disk _ _)

pub returns-in-NoMemory-clause-end : goal.returns-in-NoMemory-clause-end
returns-in-NoMemory-clause-end g c = rw c.without_place-in-NoMemory.ensures (without_memory g.D.Disk.past g.D.Disk.faults c.args.users c.args.disk (asked_in c.args.said.now) c.in-NoMemory.disk _ _)

pub returns-in-NoMemory-clause-only_read : goal.returns-in-NoMemory-clause-only_read
returns-in-NoMemory-clause-only_read g c = inr (only_read _ _ c.in-NoMemory.ensures.loaded)
