use Rattle.std.proofs.Common.{◌∙◌, refl, sym, subst, inl, inr}
use Rattle.cal_model.specs.Users.UsersFile.{Users}
use Rattle.cal_session.specs.Loading.{IsReady, IsRefused, IsMismatched}
use Rattle.caldav_server.specs.KeptServers.{LeavesMore}
use Rattle.caldav_server.proofs.FaultCounts.{rose_some}
use Rattle.caldav_server.proofs.KeptJournals.{served_from}
use Rattle.caldav_server.proofs.KeptServing.{not_nine}
use Rattle.caldav_server.proofs.kept_serve.serve_at_journal.Goals as goal

pub serve_kept-status-requires-clause-users : goal.serve_kept-status-requires-clause-users
serve_kept-status-requires-clause-users g c κs bounds = c.in-Ready.ensures.loaded.users_are ∙ (c.in-Ok.ensures ∙ sym c.deref.ensures)

pub returns-in-Ready-clause-journal_refused : goal.returns-in-Ready-clause-journal_refused
returns-in-Ready-clause-journal_refused g c = rw c.without_place-in-Ready.ensures (λ is. absurd (not_nine c.serve_kept-status.result.0 c.serve_kept-status.ensures.known is))

pub returns-in-Ready-clause-journal_fault : goal.returns-in-Ready-clause-journal_fault
returns-in-Ready-clause-journal_fault g c = rw c.without_place-in-Ready.ensures (λ is.
    let ran = c.serve_kept-status in
    let now = g.K.Disk.past ran.result.1 in
    inr (served_from g.K.Disk.past c.args.users c.args.disk c.in-Ready.kept ran.result.0 now
    (subst (λ (known : Users). IsReady g.K.Disk.past known c.args.disk c.in-Ready.kept) c.in-Ok.ensures c.in-Ready.ensures.loaded)
    (subst (λ (known : Users). LeavesMore known c.in-Ready.kept.book.work.journal ran.result.0 now) c.deref.ensures ran.ensures.left)))

pub returns-in-Ready-clause-door_behind_journal : goal.returns-in-Ready-clause-door_behind_journal
returns-in-Ready-clause-door_behind_journal g c = rw c.without_place-in-Ready.ensures (
    let ran = c.serve_kept-status in
    let now = g.K.Disk.past ran.result.1 in
    inr (served_from g.K.Disk.past c.args.users c.args.disk c.in-Ready.kept ran.result.0 now
    (subst (λ (known : Users). IsReady g.K.Disk.past known c.args.disk c.in-Ready.kept) c.in-Ok.ensures c.in-Ready.ensures.loaded)
    (subst (λ (known : Users). LeavesMore known c.in-Ready.kept.book.work.journal ran.result.0 now) c.deref.ensures ran.ensures.left)))

pub returns-in-Ready-clause-served : goal.returns-in-Ready-clause-served
returns-in-Ready-clause-served g c = rw c.without_place-in-Ready.ensures (λ is.
    let ran = c.serve_kept-status in
    let now = g.K.Disk.past ran.result.1 in
    served_from g.K.Disk.past c.args.users c.args.disk c.in-Ready.kept ran.result.0 now
    (subst (λ (known : Users). IsReady g.K.Disk.past known c.args.disk c.in-Ready.kept) c.in-Ok.ensures c.in-Ready.ensures.loaded)
    (subst (λ (known : Users). LeavesMore known c.in-Ready.kept.book.work.journal ran.result.0 now) c.deref.ensures ran.ensures.left))

pub returns-in-Ready-clause-disk_fault : goal.returns-in-Ready-clause-disk_fault
returns-in-Ready-clause-disk_fault g c = rw c.without_place-in-Ready.ensures c.serve_kept-status.ensures.disk_fault

pub returns-in-Failed-clause-disk_fault : goal.returns-in-Failed-clause-disk_fault
returns-in-Failed-clause-disk_fault g c = λ is. rose_some (g.K.Disk.faults c.args.disk) (g.K.Disk.faults c.in-Failed.disk) c.in-Failed.ensures.never_falls c.in-Failed.ensures.loaded

pub returns-in-Refused-clause-journal_refused : goal.returns-in-Refused-clause-journal_refused
returns-in-Refused-clause-journal_refused g c = λ is.
    (refl, inl (subst (λ (known : Users). IsRefused g.K.Disk.past known c.args.disk c.in-Refused.disk c.in-Refused.place) c.in-Ok.ensures c.in-Refused.ensures.loaded))

pub returns-in-Mismatch-clause-journal_refused : goal.returns-in-Mismatch-clause-journal_refused
returns-in-Mismatch-clause-journal_refused g c = λ is.
    let at = c.in-Mismatch in
    (refl, inr (at._kept, at._made, subst (λ (known : Users). IsMismatched g.K.Disk.past known c.args.disk at.disk at.place at._kept at._made) c.in-Ok.ensures at.ensures.loaded))
