use Rattle.std.proofs.Common.{sym, ap, ◌∙◌}
use Rattle.cal_model.specs.declared.reply.Reply.{Reply}
use Rattle.cal_model.proofs.Sight.LookingAlikeLaws.{replies_are_alike}
use Rattle.cal_book.specs.Looks.{look_directory, look_state}
use Rattle.cal_book.proofs.ReasonLaws.{reply-known}
use Rattle.cal_book.proofs.RequestLemmas.{other-status}
use Rattle.cal_book.proofs.look.Look.answer.Goals as goal

pub returns-in-Ok-clause-busy : goal.returns-in-Ok-clause-busy
returns-in-Ok-clause-busy g c busy =
    let look = c.args.self.now in
    absurd (other-status look.users c.args.event.now.who (look_directory look) (look_state look) c.args.event.now c.requires.bookable (sym (ap (λ (r : Reply). r.status) c.in-Ok.ensures.reply) ∙ busy))

pub returns-in-Ok-clause-known : goal.returns-in-Ok-clause-known
returns-in-Ok-clause-known g c unknown =
    let look = c.args.self.now in
    reply-known look.users (look_directory look) (look_state look) c.args.event.now c.requires.bookable (sym (ap (λ (r : Reply). r.status) c.in-Ok.ensures.reply) ∙ unknown)

pub returns-in-Ok-clause-alike : goal.returns-in-Ok-clause-alike
returns-in-Ok-clause-alike g c told other alike =
    let look = c.args.self.now in
    c.in-Ok.ensures.reply ∙ replies_are_alike (look_directory look) (look_state look) other c.args.event.now c.requires.reading alike
