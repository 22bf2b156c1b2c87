use Rattle.std.proofs.Common.{refl, inl, inr}
use Rattle.caldav_server.specs.SlotEnds.{asked_in}
use Rattle.caldav_server.proofs.FaultCounts.{rose_since}
use Rattle.caldav_server.proofs.SlotFiles.{end_since, fault_end, no_octets, not_taken_end, only_read, only_read_since, some_octets}
use Rattle.caldav_server.proofs.slot.slot_of_journal.Goals as goal

pub returns-in_default-clause-end : goal.returns-in_default-clause-end
returns-in_default-clause-end g c = rw c.without_place.ensures (fault_end g.D.Disk.past g.D.Disk.faults c.args.users c.args.disk (asked_in c.args.said.now) c.len.new.self _ _)

pub returns-then-size-eq0-clause-end : goal.returns-then-size-eq0-clause-end
returns-then-size-eq0-clause-end g c =
    rw c.without_place-then-size-eq0.ensures
    (not_taken_end g.D.Disk.past g.D.Disk.faults c.args.users c.args.disk (asked_in c.args.said.now) c.len.new.self 0 _ _
    (inl (refl, no_octets (g.D.Disk.past c.args.disk) c.in-Ok.size c.if-size-eq0.true c.in-Ok.ensures.counted)))

pub returns-then-size-eq0-clause-only_read : goal.returns-then-size-eq0-clause-only_read
returns-then-size-eq0-clause-only_read g c = inr (only_read _ _ (inl c.len.ensures.past_kept))

pub slot_of_octets-requires-clause-some : goal.slot_of_octets-requires-clause-some
slot_of_octets-requires-clause-some g c =
    some_octets (g.D.Disk.past c.args.disk) (g.D.Disk.past c.len.new.self) c.in-Ok.size c.if-size-eq0.false c.len.ensures.past_kept c.in-Ok.ensures.counted

pub returns-clause-end : goal.returns-clause-end
returns-clause-end g c =
    let ran = c.slot_of_octets in
    end_since g.D.Disk.past g.D.Disk.faults c.args.users c.args.disk (asked_in c.args.said.now) c.len.new.self ran.result.1 (g.O.Sink.written c.args.output.now) (g.O.Sink.written ran.new.output) ran.result.0
    c.len.ensures.past_kept ran.ensures.end

pub returns-clause-only_read : goal.returns-clause-only_read
returns-clause-only_read g c =
    elim c.slot_of_octets.ensures.only_read [
      | inl fault ↦ inl fault
      | inr read ↦ inr (only_read_since (g.D.Disk.past c.args.disk) (g.D.Disk.past c.len.new.self) (g.D.Disk.past c.slot_of_octets.result.1) c.len.ensures.past_kept read)
    ]

pub returns-clause-journal_fault : goal.returns-clause-journal_fault
returns-clause-journal_fault g c = λ is.
    let ran = c.slot_of_octets in
    rose_since (g.D.Disk.faults c.args.disk) (g.D.Disk.faults c.len.new.self) (g.D.Disk.faults ran.result.1) c.len.ensures.never_falls ran.ensures.disk_never_falls (ran.ensures.journal_fault is)
