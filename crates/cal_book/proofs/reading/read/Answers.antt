use Rattle.std.proofs.Common.{◌≡◌, ℕ, sym, ap, ◌∙◌, subst}
use Rattle.std.specs.Prelude.{ℤ, IfOk, ◌≤◌, ◌+◌}
use Rattle.cal_model.specs.declared.reply.Reply.{Reply}
use Rattle.cal_model.specs.Pieces.PieceLists.{rows_at}
use Rattle.cal_model.specs.Serving.EventReplies.{reply_to}
use Rattle.cal_model.proofs.Sight.LookingAlikeLaws.{outcome-reading}
use Rattle.cal_book.specs.Showing.ShownStates.{shown_state}
use Rattle.dav_reports.specs.CalendarObjects.{AreHeldRight}
use Rattle.cal_book.specs.Answering.ReadingCost.{reading_cost}
use Rattle.cal_book.specs.Keeping.KeptHistories.{users_in, directory_in, state_in, origins_in}
use Rattle.cal_book.specs.EventSteps.{state_behind}
use Rattle.cal_book.specs.UpToDate.{work_with}
use Rattle.cal_book.proofs.HeldPieces.{AreHeldRight-right, AreLive-same}
use Rattle.cal_book.proofs.EventLemmas.{stepped-unchanged}
use Rattle.cal_book.proofs.HistoryLemmas.{step-octets, step-sound}
use Rattle.cal_book.proofs.reading.read.Goals as goal

pub read_shown-requires-clause-right : goal.read_shown-requires-clause-right
read_shown-requires-clause-right g c home calendar =
    let history = c.args.history.now in
    let step = c.entries-entries.ensures.step in
    let right = AreHeldRight-right history.journal (origins_in history) (state_in history) c.args.claims.now.pieces step.live (step-octets history.users history.store history.journal step) c.requires.kept.right
    (directory_in history) (step-sound history.users history.store history.journal step) home calendar in
    subst (λ o. AreHeldRight (λ (origin : ℕ) (window : ℤ). rows_at origin window c.args.claims.now.pieces) o (shown_state c.view-view.result) home calendar) (sym c.view-view.ensures.origins)
    (subst (λ s. AreHeldRight (λ (origin : ℕ) (window : ℤ). rows_at origin window c.args.claims.now.pieces) (origins_in history) s home calendar) (sym c.view-view.ensures.state) right)

pub returns-clause-reply : goal.returns-clause-reply
returns-clause-reply g c =
    let history = c.args.history.now in
    let event = c.args.event.now in
    let view = c.view-view.ensures in
    let step = c.entries-entries.ensures.step in
    let answered =
    ap (λ d. reply_to d (shown_state c.view-view.result) event) view.directory
    ∙ ap (λ s. reply_to (directory_in history) s event) (view.state ∙ step.state_is) in
    subst (λ told. IfOk c.read_shown.result (λ (reply : Reply). reply ≡ told)) answered c.read_shown.ensures.reply

pub returns-clause-work : goal.returns-clause-work
returns-clause-work g c =
    let history = c.args.history.now in
    let event = c.args.event.now in
    sym (stepped-unchanged (users_in history) event (work_with history.journal c.args.claims.now) _ c.requires.kept.right
    (outcome-reading (directory_in history) (state_behind (users_in history) history.journal) event c.requires.reading))

pub returns-clause-steps : goal.returns-clause-steps
returns-clause-steps g c origins live =
    let history = c.args.history.now in
    let event = c.args.event.now in
    let view = c.view-view.ensures in
    let step = c.entries-entries.ensures.step in
    let same = AreLive-same history.journal (origins_in history) origins step.live live in
    subst (λ n. c.read_shown.new.steps ≤ c.args.steps.now + n)
    ((λ i. reading_cost (λ (origin : ℕ) (window : ℤ). rows_at origin window c.args.claims.now.pieces) (view.origins i) (view.directory i) (view.state i) event)
    ∙ (λ i. reading_cost (λ (origin : ℕ) (window : ℤ). rows_at origin window c.args.claims.now.pieces) (same i) (directory_in history) (step.state_is i) event))
    c.read_shown.ensures.steps
