use Rattle.std.proofs.Common.{sym, ◌∙◌, subst}
use Rattle.std.proofs.lemmas.Bool.{false≢true}
use Rattle.cal_model.specs.History.KeptChanges.{kept_change}
use Rattle.cal_book.specs.Checking.Checks.{IsChecked}
use Rattle.cal_book.specs.Keeping.KeptHistories.{users_in, directory_in}
use Rattle.cal_book.specs.EventSteps.{state_behind}
use Rattle.cal_book.specs.UpToDate.{work_with}
use Rattle.cal_book.proofs.ChangeLemmas.{delete-asks, reply-deletion}
use Rattle.cal_book.proofs.EventLemmas.{stepped-unchanged, work-stepped}
use Rattle.cal_book.proofs.changing.carry_out.Goals as goal

pub returns-in-Err-clause-decided : goal.returns-in-Err-clause-decided
returns-in-Err-clause-decided g c deletes decided =
    let history = c.args.history.now in
    let made = subst (IsChecked (directory_in history) (state_behind (users_in history) history.journal) c.args.event.now) c.in-Made.is c.requires.checked in
    absurd (false≢true (sym made.adds ∙ delete-asks (directory_in history) c.args.event.now.request (kept_change c.in-Made.change) deletes made.asked_is))

pub returns-in-Deletes-clause-reply : goal.returns-in-Deletes-clause-reply
returns-in-Deletes-clause-reply g c =
    let history = c.args.history.now in
    let state = state_behind (users_in history) history.journal in
    c.bare_reply.ensures
    ∙ reply-deletion (directory_in history) state c.args.event.now c.in-Deletes.home c.requires.bookable.suits
    (subst (IsChecked (directory_in history) state c.args.event.now) c.in-Deletes.is c.requires.checked)

pub returns-in-Deletes-clause-work : goal.returns-in-Deletes-clause-work
returns-in-Deletes-clause-work g c =
    let history = c.args.history.now in
    let made = c.delete.ensures in
    work-stepped (users_in history) c.args.event.now history.journal c.delete.new.history.journal c.args.claims.now c.delete.new.claims made.entered made.pieces made.latest made.out

pub returns-in-Refused-clause-work : goal.returns-in-Refused-clause-work
returns-in-Refused-clause-work g c =
    let history = c.args.history.now in
    let state = state_behind (users_in history) history.journal in
    sym (stepped-unchanged (users_in history) c.args.event.now (work_with history.journal c.args.claims.now) c.in-Refused.reply c.requires.kept.right
    (subst (IsChecked (directory_in history) state c.args.event.now) c.in-Refused.is c.requires.checked))
