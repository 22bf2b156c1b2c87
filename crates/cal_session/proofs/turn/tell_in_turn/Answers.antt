use Rattle.std.proofs.Common.{ap, sym, subst, ◌∙◌, Some}
use Rattle.turn_lock.specs.Journals.{IsFollowedByOwn}
use Rattle.turn_lock.specs.Passes.{PassState}
use Rattle.cal_model.specs.History.Journal.{Entry}
use Rattle.cal_model.specs.Users.UsersFile.{Users}
use Rattle.cal_session.proofs.AskingLemmas.{own_none}
use Rattle.cal_session.proofs.EndLaws.{looked_once}
use Rattle.cal_session.proofs.turn.tell_in_turn.Goals as goal

pub give-requires-clause-base : goal.give-requires-clause-base
give-requires-clause-base g c =
    let value = c.take-value.result.value in
    let after = c.tell_moment.new.value in
    let users = g.met.B.Desk.bases after ∙ (c.tell_moment.ensures.users ∙ sym (g.met.B.Desk.bases value)) in
    ap (λ (p : PassState Entry Users). p.base) c.take-value.ensures.pass ∙ (c.take-value.ensures.base ∙ ap (λ u. Some u) (sym users))

pub give-requires-clause-added : goal.give-requires-clause-added
give-requires-clause-added g c =
    let author = g.B.Keeps.author in
    let value = c.take-value.result.value in
    let after = c.tell_moment.new.value in
    let same = g.met.B.Desk.journals after ∙ (c.tell_moment.ensures.journal ∙ sym (g.met.B.Desk.journals value)) in
    subst (λ p. IsFollowedByOwn author p.number p.seen (g.B.Keeps.journal after)) (sym c.take-value.ensures.pass) (own_none author c.args.pass.now.number (g.B.Keeps.journal value) (g.B.Keeps.journal after) same)

pub returns : goal.returns
returns g c =
    let value = c.take-value.result.value in
    let after = c.tell_moment.new.value in
    let same = g.met.B.Desk.journals after ∙ (c.tell_moment.ensures.journal ∙ sym (g.met.B.Desk.journals value)) in
    looked_once g.B.Keeps.author g.met.B.Desk.authors c.args.pass.now c.take-value.new.pass c.give.new.pass (g.B.Keeps.journal value) (g.B.Keeps.journal after) c.take-value.ensures.pass c.give.ensures.pass same c.requires.free
    c.take-value.ensures.longer
