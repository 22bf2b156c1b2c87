use Rattle.std.proofs.Common.{rules, subst, ◌∙◌, FitsSigned, w64}
use Rattle.std.proofs.lemmas.Int.{to_z-of_z}
use mir.Val.{to_z, of_z}
use Rattle.cal_model.specs.History.Journal.{IsLegal}
use Rattle.cal_model.specs.State.ServerState.{directory_of}
use Rattle.cal_model.specs.Users.UsersFile.{Users}
use Rattle.cal_script.proofs.EnteringLemmas.{goes_on_none}
use Rattle.cal_script.proofs.ReplyingLemmas.{told_booked, told_answer, told_reason, told_on, told_by}
use Rattle.cal_script.proofs.replying.reply_to.Goals as goal

pub returns-in-Request-clause-answer : goal.returns-in-Request-clause-answer
returns-in-Request-clause-answer g c =
    let fits : FitsSigned w64 c.seconds.result = search (rules, c.seconds.type_inv) in
    told_answer c.ask-told.result c.args.users.now (g.B.Desk.book c.args.desk.now) (g.B.Desk.book c.ask-told.new.self) _ _ _ _ _ c.journals_follow.ensures c.requires.book c.in-Request.ensures.asked c.in-Request.ensures.bookable
    (told_booked c.ask-told.result c.args.users.now (g.B.Desk.book c.args.desk.now) (g.B.Desk.book c.reserve.new.self) (g.B.Desk.book c.ask-told.new.self) _ _ c.args.arrival.moment (to_z w64 (of_z w64 c.seconds.result)) _ (to_z-of_z w64 c.seconds.result fits ∙ c.seconds.ensures.value)
    c.requires.book.users_are c.reserve.ensures.users c.reserve.ensures.work c.ask-told.ensures.users c.ask-told.ensures.reply c.ask-told.ensures.work c.ask-told.ensures.busy)

pub returns-in-Request-clause-known : goal.returns-in-Request-clause-known
returns-in-Request-clause-known g c =
    let fits : FitsSigned w64 c.seconds.result = search (rules, c.seconds.type_inv) in
    told_reason c.ask-told.result c.args.users.now _ _ _ _ _ (g.B.Desk.book c.ask-told.new.self) c.replies_have_reasons.ensures c.in-Request.ensures.bookable
    (told_booked c.ask-told.result c.args.users.now (g.B.Desk.book c.args.desk.now) (g.B.Desk.book c.reserve.new.self) (g.B.Desk.book c.ask-told.new.self) _ _ c.args.arrival.moment (to_z w64 (of_z w64 c.seconds.result)) _ (to_z-of_z w64 c.seconds.result fits ∙ c.seconds.ensures.value)
    c.requires.book.users_are c.reserve.ensures.users c.reserve.ensures.work c.ask-told.ensures.users c.ask-told.ensures.reply c.ask-told.ensures.work c.ask-told.ensures.busy)

pub returns-in-Request-clause-book : goal.returns-in-Request-clause-book
returns-in-Request-clause-book g c =
    let users_are = c.reserve.ensures.users ∙ c.requires.book.users_are in
    record { users_are = c.ask-told.ensures.users ∙ users_are; legal = subst (λ (users : Users). IsLegal (directory_of users) (g.B.Desk.book c.ask-told.new.self).work.journal) users_are c.ask-told.ensures.legal }

pub returns-in-Request-clause-goes_on : goal.returns-in-Request-clause-goes_on
returns-in-Request-clause-goes_on g c =
    let fits : FitsSigned w64 c.seconds.result = search (rules, c.seconds.type_inv) in
    told_on c.ask-told.result c.args.users.now (g.B.Desk.book c.args.desk.now) (g.B.Desk.book c.reserve.new.self) (g.B.Desk.book c.ask-told.new.self) _ _ c.args.arrival.moment (to_z w64 (of_z w64 c.seconds.result)) _ _ _ _
    (to_z-of_z w64 c.seconds.result fits ∙ c.seconds.ensures.value) c.in-Request.ensures.asked (c.reserve.ensures.users ∙ c.requires.book.users_are) c.reserve.ensures.work
    (told_booked c.ask-told.result c.args.users.now (g.B.Desk.book c.args.desk.now) (g.B.Desk.book c.reserve.new.self) (g.B.Desk.book c.ask-told.new.self) _ _ c.args.arrival.moment (to_z w64 (of_z w64 c.seconds.result)) _ (to_z-of_z w64 c.seconds.result fits ∙ c.seconds.ensures.value)
    c.requires.book.users_are c.reserve.ensures.users c.reserve.ensures.work c.ask-told.ensures.users c.ask-told.ensures.reply c.ask-told.ensures.work c.ask-told.ensures.busy)
    c.ask-told.ensures.breaks (λ broken. (c.ask-told.ensures.stays_broken broken).1)

pub returns-in-Request-clause-broken : goal.returns-in-Request-clause-broken
returns-in-Request-clause-broken g c =
    told_by c.ask-told.result _ _ (g.B.Desk.broken c.reserve.new.self) _ _ _ _ c.reserve.ensures.broken_kept c.reserve.ensures.never_falls c.ask-told.ensures.never_falls c.ask-told.ensures.told_broken c.ask-told.ensures.breaks
    (λ broken. (c.ask-told.ensures.stays_broken broken).0)

pub returns-in-Refused-clause-known : goal.returns-in-Refused-clause-known
returns-in-Refused-clause-known g c = c.replies_have_reasons.ensures.refused_before _ _ _ c.in-Refused.ensures.asked

pub returns-in-Refused-clause-goes_on : goal.returns-in-Refused-clause-goes_on
returns-in-Refused-clause-goes_on g c = goes_on_none _ _ _

pub returns-in-NoMemory-clause-known : goal.returns-in-NoMemory-clause-known
returns-in-NoMemory-clause-known g c = rw c.bare_reply.ensures c.replies_have_reasons.ensures.busy

pub returns-in-NoMemory-clause-goes_on : goal.returns-in-NoMemory-clause-goes_on
returns-in-NoMemory-clause-goes_on g c = goes_on_none _ _ _
