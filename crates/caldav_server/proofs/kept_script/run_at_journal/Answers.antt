use Rattle.std.proofs.Common.{◌∙◌, sym, subst, inl, inr}
use Rattle.cal_model.specs.Users.UsersFile.{Users}
use Rattle.cal_script.specs.ScriptEnds.{run_told}
use Rattle.cal_session.specs.Loading.{IsReady, IsRefused, IsMismatched}
use Rattle.caldav_server.specs.KeptRuns.{IsAnswered}
use Rattle.caldav_server.proofs.FaultCounts.{rose_since}
use Rattle.caldav_server.proofs.KeptEndings.{fault_in}
use Rattle.caldav_server.proofs.KeptJournals.{stood_for}
use Rattle.cal_base.specs.World.Outside.{Rose}
use Rattle.caldav_server.proofs.kept_script.run_at_journal.Goals as goal

pub answer_kept-end-requires-clause-users : goal.answer_kept-end-requires-clause-users
answer_kept-end-requires-clause-users g c = c.in-Ready.ensures.loaded.users_are ∙ (c.in-Ok.ensures ∙ sym c.deref.ensures)

pub returns-in-Ready-clause-run : goal.returns-in-Ready-clause-run
returns-in-Ready-clause-run g c =
    let users = c.args.users in
    let kept = c.in-Ready.kept in
    let ready = subst (λ (known : Users). IsReady g.D.Disk.past known c.args.disk kept) c.in-Ok.ensures c.in-Ready.ensures.loaded in
    let ran = c.answer_kept-end in (
      kept.book.work.journal,
      stood_for g.D.Disk.past users c.args.disk kept ready,
      subst
          (λ (known : Users). IsAnswered known kept.book.work.journal (g.D.Disk.past ran.result.1) ran.result.0 (run_told g.I.Source g.O.Sink c.args.input.now ran.new.input c.args.output.now ran.new.output))
          c.deref.ensures ran.ensures.answered,
    )

pub returns-in-Ready-clause-disk_fault : goal.returns-in-Ready-clause-disk_fault
returns-in-Ready-clause-disk_fault g c = λ is.
    let ran = c.answer_kept-end in
    let first = g.D.Disk.faults c.args.disk in
    let second = g.D.Disk.faults c.in-Ready.kept.keeper.disk in
    let third = g.D.Disk.faults ran.result.1 in
    rose_since first second third c.in-Ready.ensures.never_falls ran.ensures.disk_never_falls (fault_in ran.result.0 (Rose second third) is ran.ensures.disk_fault)

pub returns-in-Refused-clause-run : goal.returns-in-Refused-clause-run
returns-in-Refused-clause-run g c = inl (subst (λ (known : Users). IsRefused g.D.Disk.past known c.args.disk c.in-Refused.disk c.in-Refused.place) c.in-Ok.ensures c.in-Refused.ensures.loaded)

pub returns-in-Mismatch-clause-run : goal.returns-in-Mismatch-clause-run
returns-in-Mismatch-clause-run g c =
    let at = c.in-Mismatch in
    inr (at._kept, at._made, subst (λ (known : Users). IsMismatched g.D.Disk.past known c.args.disk at.disk at.place at._kept at._made) c.in-Ok.ensures at.ensures.loaded)
