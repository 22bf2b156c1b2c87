use Rattle.std.proofs.Common.{refl, sym, subst, arith, ◌<◌, ◌≤◌, length, List}
use Rattle.std.proofs.lemmas.List.{take_all}
use Rattle.cal_base.specs.World.Outside.{Rose}
use Rattle.cal_keeper.specs.Disks.CrashModel.{LeavesOnly}
use Rattle.cal_keeper.specs.Files.Drafts.{IsNoneOrWhole}
use Rattle.cal_model.specs.History.Journal.{Entry}
use Rattle.journal_migration.specs.Stops.{Since}
use Rattle.journal_migration.specs.Writing.{IsDraftSoFar}
use Rattle.journal_migration.proofs.OpenLaws.{rose_since}
use Rattle.journal_migration.proofs.WriteLaws.{none_so_far, one_more, failed_at, whole_since, unsealed}
use Rattle.journal_migration.proofs.writing.write_all.Goals as goal

pub entries-init : goal.entries-init
entries-init g c = record {
  so_far = none_so_far g.D.Disk.past c.args.users.now c.file_laws.ensures.unmarked c.args.book.now.work.journal c.args.begun c.requires.principals c.requires.unbroken c.requires.drafted;
  never_falls = omega arith;
}

pub entries-preserved : goal.entries-preserved
entries-preserved g c =
    let kept = c.entries.invariant in
    record {
      so_far = one_more g.D.Disk.past c.args.users.now c.file_laws.ensures.going_on c.args.book.now.work.journal c.requires.recorded c.args.begun c.entries.draft c.write_entry.new.draft c.entries.number (omega (arith, c.entries-test.true))
          kept.so_far _ refl c.in-Ok.ensures.written;
      never_falls = (let first = kept.never_falls in let second = c.in-Ok.ensures.never_falls in omega (arith, first, second));
    }

pub returns-in-Err-clause-written : goal.returns-in-Err-clause-written
returns-in-Err-clause-written g c =
    let users = c.args.users.now in
    let entries = c.args.book.now.work.journal in
    let kept = c.entries.invariant in
    let within : c.entries.number < length entries = omega (arith, c.entries-test.true, c.entries-number-end.ensures.entries) in (
      subst (λ left. Since (LeavesOnly (IsNoneOrWhole users entries)) (g.D.Disk.past c.args.begun.disk) (g.D.Disk.past left)) (sym c.into_disk.ensures)
          (failed_at g.D.Disk.past users c.file_laws.ensures.going_on entries c.requires.recorded c.args.begun c.entries.draft c.write_entry.new.draft c.entries.number within kept.so_far _ refl c.in-Err.ensures.written),
      subst (λ left. Rose (g.D.Disk.faults c.args.begun.disk) (g.D.Disk.faults left)) (sym c.into_disk.ensures)
          (rose_since (g.D.Disk.faults c.args.begun.disk) (g.D.Disk.faults c.entries.draft.disk) (g.D.Disk.faults c.write_entry.new.draft.disk) kept.never_falls c.in-Err.ensures.never_falls c.in-Err.ensures.failed),
    )

pub returns-in-Done-clause-written : goal.returns-in-Done-clause-written
returns-in-Done-clause-written g c =
    let entries = c.args.book.now.work.journal in
    let all : length entries ≤ c.entries.number = omega (arith, c.entries-test.false, c.entries-number-end.ensures.entries) in
    let so_far : IsDraftSoFar g.D.Disk.past c.args.users.now entries c.args.begun c.entries.draft =
    subst (λ (es : List Entry). IsDraftSoFar g.D.Disk.past c.args.users.now es c.args.begun c.entries.draft) (take_all c.entries.number entries all) c.entries.invariant.so_far in
    whole_since g.D.Disk.past c.args.users.now c.file_laws.ensures.finished entries c.args.begun c.entries.draft so_far c.in-Done.to c.in-Done.ensures.finished

pub returns-in-Failed-clause-written : goal.returns-in-Failed-clause-written
returns-in-Failed-clause-written g c =
    let entries = c.args.book.now.work.journal in
    let all : length entries ≤ c.entries.number = omega (arith, c.entries-test.false, c.entries-number-end.ensures.entries) in
    let so_far : IsDraftSoFar g.D.Disk.past c.args.users.now entries c.args.begun c.entries.draft =
    subst (λ (es : List Entry). IsDraftSoFar g.D.Disk.past c.args.users.now es c.args.begun c.entries.draft) (take_all c.entries.number entries all) c.entries.invariant.so_far in (
      unsealed g.D.Disk.past c.args.users.now c.file_laws.ensures.finished entries c.args.begun c.entries.draft so_far c.in-Failed.to c.in-Failed.ensures.finished.0,
      rose_since (g.D.Disk.faults c.args.begun.disk) (g.D.Disk.faults c.entries.draft.disk) (g.D.Disk.faults c.in-Failed.to) c.entries.invariant.never_falls c.in-Failed.ensures.never_falls c.in-Failed.ensures.finished.1,
    )
