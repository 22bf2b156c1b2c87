use Rattle.std.proofs.Common.{ap, sym, subst, ◌∙◌}
use Rattle.turn_lock.specs.Journals.{IsFollowedByOwn}
use Rattle.cal_book.specs.Cores.{Core}
use Rattle.expansion_workers.proofs.WorkLemmas.{own_none}
use Rattle.expansion_workers.proofs.turns.give_up.Goals as goal

pub give-requires-clause-added : goal.give-requires-clause-added
give-requires-clause-added g c =
    let author = g.B.Keeps.author in
    let value = c.take-value.result.value in
    let after = c.abandon.new.self in
    let same = g.met.B.Desk.journals after ∙ (ap (λ (core : Core). core.work.journal) c.abandon.ensures.abandoned ∙ sym (g.met.B.Desk.journals value)) in
    subst (λ p. IsFollowedByOwn author p.number p.seen (g.B.Keeps.journal after)) (sym c.take-value.ensures.pass) (own_none author c.args.pass.now.number (g.B.Keeps.journal value) (g.B.Keeps.journal after) same)
