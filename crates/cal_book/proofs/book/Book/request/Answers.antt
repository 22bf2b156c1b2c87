use Rattle.std.proofs.Common.{sym, ap, ◌∙◌}
use Rattle.cal_model.specs.declared.reply.Reply.{Reply}
use Rattle.cal_model.proofs.Sight.LookingAlikeLaws.{replies_are_alike}
use Rattle.cal_book.specs.Cores.{directory_in, state_in}
use Rattle.cal_book.proofs.EventLemmas.{latest-alone, stepped-unchanged}
use Rattle.cal_book.proofs.ReasonLaws.{reply-known}
use Rattle.cal_book.proofs.RequestLemmas.{other-status}
use Rattle.cal_book.proofs.book.Book.request.Goals as goal

pub returns-in-Ok-clause-busy : goal.returns-in-Ok-clause-busy
returns-in-Ok-clause-busy g c busy =
    let core = c.args.self.now in
    absurd (other-status core.users c.args.event.now.who (directory_in core) (state_in core) c.args.event.now c.requires.bookable (sym (ap (λ (r : Reply). r.status) c.in-Ok.ensures.reply) ∙ busy))

pub returns-in-Ok-clause-alike : goal.returns-in-Ok-clause-alike
returns-in-Ok-clause-alike g c reads told other look =
    let core = c.args.self.now in
    c.in-Ok.ensures.reply ∙ replies_are_alike (directory_in core) (state_in core) other c.args.event.now reads look

pub returns-in-Ok-clause-deletes : goal.returns-in-Ok-clause-deletes
returns-in-Ok-clause-deletes g c deletes room busy =
    let core = c.args.self.now in
    other-status core.users c.args.event.now.who (directory_in core) (state_in core) c.args.event.now c.requires.bookable (sym (ap (λ (r : Reply). r.status) c.in-Ok.ensures.reply) ∙ busy)

pub returns-in-Ok-clause-as_before : goal.returns-in-Ok-clause-as_before
returns-in-Ok-clause-as_before g c refused e =
    let core = c.args.self.now in
    latest-alone core.work _ _ _ c.came_at.ensures.work (c.in-Ok.ensures.work ∙ stepped-unchanged core.users c.args.event.now core.work refused c.entries-entries.ensures.kept.right e)

pub returns-in-Ok-clause-known : goal.returns-in-Ok-clause-known
returns-in-Ok-clause-known g c unknown =
    let core = c.args.self.now in
    reply-known core.users (directory_in core) (state_in core) c.args.event.now c.requires.bookable (sym (ap (λ (r : Reply). r.status) c.in-Ok.ensures.reply) ∙ unknown)
