use Rattle.std.proofs.Common.{refl, ap, sym, subst, ◌∙◌, Some}
use Rattle.turn_lock.specs.Journals.{IsFollowedByOwn}
use Rattle.turn_lock.specs.Passes.{PassState}
use Rattle.cal_model.specs.History.Journal.{Entry}
use Rattle.cal_model.specs.Requests.BookableRequests.{IsBookable}
use Rattle.cal_model.specs.Users.UsersFile.{Users}
use Rattle.cal_book.specs.Cores.{Core}
use Rattle.cal_book.specs.declared.desk.Told.TheVariants.{Reply}
use Rattle.cal_session.proofs.AskingLemmas.{told_by_journal, told_own, told_at, replied_at, asked_at, own_none, users_same}
use Rattle.cal_session.proofs.turn.ask_once.Goals as goal

-- Answered from a look

pub give-requires-clause-base : goal.give-requires-clause-base
give-requires-clause-base g c =
    let value = c.take-value.result.value in
    let after = c.look.new.self in
    let users = g.met.B.Desk.bases after ∙ (ap (λ (core : Core). core.users) c.look.ensures.same ∙ (c.begin_turn-at.ensures.users ∙ sym (g.met.B.Desk.bases value))) in
    ap (λ (p : PassState Entry Users). p.base) c.take-value.ensures.pass ∙ (c.take-value.ensures.base ∙ ap (λ u. Some u) (sym users))

pub give-requires-clause-added : goal.give-requires-clause-added
give-requires-clause-added g c =
    let author = g.B.Keeps.author in
    let value = c.take-value.result.value in
    let after = c.look.new.self in
    let same = g.met.B.Desk.journals after ∙ (ap (λ (core : Core). core.work.journal) c.look.ensures.same ∙ (c.begin_turn-at.ensures.journal ∙ sym (g.met.B.Desk.journals value))) in
    subst (λ p. IsFollowedByOwn author p.number p.seen (g.B.Keeps.journal after)) (sym c.take-value.ensures.pass) (own_none author c.args.pass.now.number (g.B.Keeps.journal value) (g.B.Keeps.journal after) same)

pub answer_from-reply-requires-clause-reading : goal.answer_from-reply-requires-clause-reading
answer_from-reply-requires-clause-reading g c κs within = c.in-Some.ensures.at.reads

pub answer_from-reply-requires-clause-bookable : goal.answer_from-reply-requires-clause-bookable
answer_from-reply-requires-clause-bookable g c κs within =
    let value = c.take-value.result.value in
    let users = c.in-Some.ensures.at.users ∙ (c.begin_turn-at.ensures.users ∙ users_same _ _ c.args.context.now.users.now (g.met.B.Desk.bases value) (sym c.take-value.ensures.base ∙ c.requires.base)) in
    subst (λ (u : Users). IsBookable u c.args.event.now.who c.args.event.now.request) (sym users) c.requires.bookable

pub returns-in-Some-clause-turn : goal.returns-in-Some-clause-turn
returns-in-Some-clause-turn g c =
    let value = c.take-value.result.value in
    let begun = g.B.Desk.book c.begin_turn-at.new.value in
    let after = c.look.new.self in
    let users = c.begin_turn-at.ensures.users ∙ users_same _ _ c.args.context.now.users.now (g.met.B.Desk.bases value) (sym c.take-value.ensures.base ∙ c.requires.base) in
    let journal = c.begin_turn-at.ensures.journal ∙ sym (g.met.B.Desk.journals value) in
    let seen = ap (λ (p : PassState Entry Users). p.seen) c.give.ensures.pass in
    let left = sym (seen ∙ (g.met.B.Desk.journals after ∙ ap (λ (core : Core). core.work.journal) c.look.ensures.same)) in
    asked_at g.B.Keeps.author g.met.B.Desk.authors c.args.context.now.users.now c.args.pass.now c.begin_turn-at.result c.args.event.now (Reply c.answer_from-reply.result) (g.B.Keeps.journal value) c.give.new.pass.seen c.take-value.ensures.longer
    c.begin_turn-at.ensures.at
    (replied_at c.args.event.now c.answer_from-reply.result begun.users c.args.context.now.users.now begun.work.journal (g.B.Keeps.journal value) begun.work.journal c.give.new.pass.seen users journal left
    (c.answer_from-reply.ensures begun c.in-Some.ensures.at))

-- Answered in the turn

pub ask-told-requires-clause-bookable : goal.ask-told-requires-clause-bookable
ask-told-requires-clause-bookable g c =
    let value = c.take-value.result.value in
    let users = ap (λ (core : Core). core.users) c.look.ensures.same ∙ (c.begin_turn-at.ensures.users ∙ users_same _ _ c.args.context.now.users.now (g.met.B.Desk.bases value) (sym c.take-value.ensures.base ∙ c.requires.base)) in
    subst (λ (u : Users). IsBookable u c.args.event.now.who c.args.event.now.request) (sym users) c.requires.bookable

pub give-requires-in-None-clause-base : goal.give-requires-in-None-clause-base
give-requires-in-None-clause-base g c =
    let value = c.take-value.result.value in
    let after = c.ask-told.new.self in
    let users = g.met.B.Desk.bases after ∙ (c.ask-told.ensures.users ∙ (ap (λ (core : Core). core.users) c.look.ensures.same ∙ (c.begin_turn-at.ensures.users ∙ sym (g.met.B.Desk.bases value)))) in
    ap (λ (p : PassState Entry Users). p.base) c.take-value.ensures.pass ∙ (c.take-value.ensures.base ∙ ap (λ u. Some u) (sym users))

pub give-requires-in-None-clause-added : goal.give-requires-in-None-clause-added
give-requires-in-None-clause-added g c =
    let author = g.B.Keeps.author in
    let value = c.take-value.result.value in
    let kept = g.B.Desk.book c.look.new.self in
    let after = c.ask-told.new.self in
    let event = c.args.event.now in
    let told = c.ask-told.result in
    let said = c.ask-told.ensures in
    let by_book = told_by_journal _ _ kept (g.B.Desk.book after) event told (g.B.Desk.broken c.look.new.self) said.reply said.work said.busy said.alike said.breaks said.stays_broken in
    let before = ap (λ (core : Core). core.work.journal) c.look.ensures.same ∙ (c.begin_turn-at.ensures.journal ∙ sym (g.met.B.Desk.journals value)) in
    let is = told_at event told kept.users kept.users kept.work.journal (g.B.Keeps.journal value) (g.B.Desk.book after).work.journal (g.B.Keeps.journal after) refl before (sym (g.met.B.Desk.journals after)) by_book in
    subst (λ p. IsFollowedByOwn author p.number p.seen (g.B.Keeps.journal after)) (sym c.take-value.ensures.pass)
    (told_own author g.met.B.Desk.authors kept.users (g.B.Keeps.journal value) event told c.args.pass.now.number (g.B.Keeps.journal after) c.requires.number is)

pub returns-in-None-clause-turn : goal.returns-in-None-clause-turn
returns-in-None-clause-turn g c =
    let value = c.take-value.result.value in
    let kept = g.B.Desk.book c.look.new.self in
    let after = c.ask-told.new.self in
    let event = c.args.event.now in
    let told = c.ask-told.result in
    let said = c.ask-told.ensures in
    let by_book = told_by_journal _ _ kept (g.B.Desk.book after) event told (g.B.Desk.broken c.look.new.self) said.reply said.work said.busy said.alike said.breaks said.stays_broken in
    let users = ap (λ (core : Core). core.users) c.look.ensures.same ∙ (c.begin_turn-at.ensures.users ∙ users_same _ _ c.args.context.now.users.now (g.met.B.Desk.bases value) (sym c.take-value.ensures.base ∙ c.requires.base)) in
    let before = ap (λ (core : Core). core.work.journal) c.look.ensures.same ∙ (c.begin_turn-at.ensures.journal ∙ sym (g.met.B.Desk.journals value)) in
    let seen = ap (λ (p : PassState Entry Users). p.seen) c.give-in-None.ensures.pass in
    let is = told_at event told kept.users c.args.context.now.users.now kept.work.journal (g.B.Keeps.journal value) (g.B.Desk.book after).work.journal c.give-in-None.new.pass.seen users before (sym (seen ∙ g.met.B.Desk.journals after)) by_book in
    asked_at g.B.Keeps.author g.met.B.Desk.authors c.args.context.now.users.now c.args.pass.now c.begin_turn-at.result event told (g.B.Keeps.journal value) c.give-in-None.new.pass.seen c.take-value.ensures.longer c.begin_turn-at.ensures.at is
