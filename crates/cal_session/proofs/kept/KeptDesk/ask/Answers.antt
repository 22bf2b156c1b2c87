use Rattle.std.proofs.Common.{rules, ◌≡◌, ◌≢◌, ◌≤◌, ◌<◌, ◌+◌, ◌^◌, ℕ, true, false, slice_get, IfSome, sym, subst}
use Rattle.cal_base.specs.World.Outside.{Rose}
use Rattle.cal_model.specs.declared.reply.Reply.{Reply as ReplyData}
use Rattle.cal_model.specs.History.Origins.{Origins, AreLive}
use Rattle.cal_model.specs.Pieces.PieceLists.{rows_at}
use Rattle.cal_model.specs.Requests.BookableRequests.{IsBookable}
use Rattle.cal_model.specs.Serving.EventReplies.{reply_to}
use Rattle.cal_model.specs.Serving.Outcomes.{is_reading}
use Rattle.cal_model.specs.Sight.LookingAlike.{LookAlike}
use Rattle.cal_model.specs.State.ServerState.{ServerState}
use Rattle.cal_keeper.specs.Files.Payloads.{HasForm}
use Rattle.cal_book.specs.Answering.ReadingCost.{reading_cost}
use Rattle.cal_book.specs.Cores.{directory_in, state_in}
use Rattle.cal_book.specs.Desks.{IsLeftBroken}
use Rattle.cal_session.specs.KeptBooks.{KeptState}
use Rattle.cal_session.specs.KeptSteps.{HasKept}
use Rattle.cal_session.proofs.KeptLaws.{come, new_form, kept_after, broken_after, of_reply, of_fault, not_broken, is_broken}
use Rattle.cal_session.proofs.kept.KeptDesk.ask.Goals as goal
use Rattle.cal_session.proofs.kept.KeptDesk.ask.Goals.{in-None, in-Some-keep_new}

pub keep_new-requires-clause-form : goal.keep_new-requires-clause-form
keep_new-requires-clause-form g c =
    let old = c.self.inside.book in
    let new = c.request-reply.new.self in
    let event = c.args.event.now in
    let bookable = subst (λ (k : KeptState _). IsBookable k.book.users event.who event.request) (sym c.self.view_is) c.requires.bookable in
    let small : event.request.size < 2 ^ 32 = search rules in
    let came = come old new event c.request-reply.result.status c.file_laws.ensures.formed bookable small c.requires.from_1970 c.requires.to_9999 c.request-reply.ensures.work c.request-reply.ensures.busy in
    subst (λ (number : ℕ). IfSome (slice_get new.work.journal number) (HasForm c.self.inside.keeper.principals)) (sym c.entries-before.ensures.entries)
    (new_form old event new c.self.inside.keeper.principals c.self.invariant.principals came)

pub invariant_of-self : goal.invariant_of-self
invariant_of-self g c =
    let old = c.self.inside.book in
    let new = c.request-reply.new.self in
    let event = c.args.event.now in
    let bookable = subst (λ (k : KeptState _). IsBookable k.book.users event.who event.request) (sym c.self.view_is) c.requires.bookable in
    let small : event.request.size < 2 ^ 32 = search rules in
    let came = come old new event c.request-reply.result.status c.file_laws.ensures.formed bookable small c.requires.from_1970 c.requires.to_9999 c.request-reply.ensures.work c.request-reply.ensures.busy in
    let whole : c.self.inside.keeper.broken ≡ false = search rules in
    let tried = subst (λ (number : ℕ). HasKept g.D.Disk.past (slice_get new.work.journal number) c.self.inside.keeper c.keep_new.new.keeper) c.entries-before.ensures.entries c.keep_new.ensures.kept in
    kept_after g.D.Disk.past old event new c.self.inside.keeper c.keep_new.new.keeper c.self.invariant whole c.request-reply.ensures.users came tried

pub returns-clause-alike : goal.returns-clause-alike
returns-clause-alike g c =
    let event = c.args.event.now in
    let alike = λ (k : KeptState _) (reply : ReplyData). is_reading event.request.method ≡ true → reply.status ≢ 503 → (other : ServerState) → LookAlike (directory_in k.book) (state_in k.book) other event.who → reply ≡ reply_to (directory_in k.book) other event in
    elim c.match-keep_new.branch [
      | in-None w ↦ of_reply c.match-keep_new.result (alike c.args.self.now) c.request-reply.result w.result-is (subst (λ (k : KeptState _). alike k c.request-reply.result) c.self.view_is c.request-reply.ensures.alike)
      | in-Some-keep_new w ↦ of_fault c.match-keep_new.result (alike c.args.self.now) w.in-Some-keep_new.fault w.result-is
    ]

pub returns-clause-reading_steps : goal.returns-clause-reading_steps
returns-clause-reading_steps g c =
    subst (λ (k : KeptState _). is_reading c.args.event.now.request.method ≡ true → (origins : Origins) → AreLive k.book.work.journal origins → c.request-reply.new.steps ≤ c.args.steps.now + reading_cost (λ origin window. rows_at origin window k.book.work.pieces) origins (directory_in k.book) (state_in k.book) c.args.event.now) c.self.view_is c.request-reply.ensures.reading_steps

pub returns-clause-breaks : goal.returns-clause-breaks
returns-clause-breaks g c =
    let old = c.self.inside.book in
    let new = c.request-reply.new.self in
    let event = c.args.event.now in
    let bookable = subst (λ (k : KeptState _). IsBookable k.book.users event.who event.request) (sym c.self.view_is) c.requires.bookable in
    let small : event.request.size < 2 ^ 32 = search rules in
    let came = come old new event c.request-reply.result.status c.file_laws.ensures.formed bookable small c.requires.from_1970 c.requires.to_9999 c.request-reply.ensures.work c.request-reply.ensures.busy in
    let whole : c.self.inside.keeper.broken ≡ false = search rules in
    let tried = subst (λ (number : ℕ). HasKept g.D.Disk.past (slice_get new.work.journal number) c.self.inside.keeper c.keep_new.new.keeper) c.entries-before.ensures.entries c.keep_new.ensures.kept in
    let left = λ (k : KeptState _). k.keeper.broken ≡ false → Rose (g.D.Disk.faults k.keeper.disk) (g.D.Disk.faults c.keep_new.new.keeper.disk) × IsLeftBroken k.book event new in
    elim c.match-keep_new.branch [
      | in-None w ↦ not_broken c.match-keep_new.result (left c.args.self.now) c.request-reply.result w.result-is
      | in-Some-keep_new w ↦
          let broken : c.keep_new.new.keeper.broken ≡ true = sym w.in-Some-keep_new.ensures.broken in
          let here : left (record { book = old; keeper = c.self.inside.keeper }) = λ unbroken. (c.keep_new.ensures.failed broken, broken_after g.D.Disk.past old event new c.self.inside.keeper c.keep_new.new.keeper whole broken came tried) in
          is_broken c.match-keep_new.result (left c.args.self.now) w.in-Some-keep_new.fault w.result-is (subst left c.self.view_is here)
    ]
