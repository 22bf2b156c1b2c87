use Rattle.std.proofs.Common.{◌≤◌, inl, sym, subst}
use Rattle.cal_session.specs.LoadSteps.{loaded_by}
use Rattle.cal_session.proofs.LoadLaws.{ready_new, has_octets, loaded_on, left_by}
use Rattle.cal_session.proofs.loading.fill.Goals as goal

pub returns-in-Done-clause-loaded : goal.returns-in-Done-clause-loaded
returns-in-Done-clause-loaded g c =
    let made = c.in-Done.ensures.created in
    ready_new g.D.Disk.past c.args.users.now c.args.disk c.args.book.now c.in-Done.keeper c.requires.users c.requires.out c.requires.journal made.0 made.1 made.2 made.3 made.4

pub fill_opened-requires-clause-some : goal.fill_opened-requires-clause-some
fill_opened-requires-clause-some g c =
    let made = c.in-NotEmpty.ensures.created in
    has_octets (g.D.Disk.past c.args.disk) (g.D.Disk.past c.in-NotEmpty.disk) c.in-NotEmpty.field-1 made.0 made.1 made.2

pub returns-in-NotEmpty-clause-loaded : goal.returns-in-NotEmpty-clause-loaded
returns-in-NotEmpty-clause-loaded g c =
    let more = subst (λ left. g.D.Disk.faults c.in-NotEmpty.disk ≤ g.D.Disk.faults left) (sym (left_by c.fill_opened.new.book c.fill_opened.result)) c.fill_opened.ensures.never_falls in
    loaded_on g.D.Disk.past g.D.Disk.faults c.args.users.now c.args.disk c.in-NotEmpty.disk c.in-NotEmpty.ensures.created.2 c.in-NotEmpty.ensures.never_falls
    (loaded_by c.fill_opened.new.book c.fill_opened.result) more c.fill_opened.ensures.loaded

pub returns-in-NoMemory-clause-loaded : goal.returns-in-NoMemory-clause-loaded
returns-in-NoMemory-clause-loaded g c = inl c.in-NoMemory.ensures.created
