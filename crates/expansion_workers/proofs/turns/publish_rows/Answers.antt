use Rattle.std.proofs.Common.{sym, subst, ◌∙◌, List}
use Rattle.turn_lock.specs.Journals.{IsFollowedByOwn}
use Rattle.cal_model.specs.History.Journal.{Entry}
use Rattle.cal_book.specs.Publishing.{IsClaimIn}
use Rattle.expansion_workers.proofs.WorkLemmas.{own_none, published_same}
use Rattle.expansion_workers.proofs.turns.publish_rows.Goals as goal

pub publish-published-requires : goal.publish-published-requires
publish-published-requires g c =
    let value = c.take-value.result.value in
    let later = c.take-value.ensures.longer in
    let claim = c.args.expanded.claim in
    record { of_book = subst (λ (journal : List Entry). IsClaimIn journal claim) (sym later.1 ∙ g.met.B.Desk.journals value) (c.claims_stay.ensures c.args.pass.now.seen later.0 claim c.requires.claim) }

pub give-requires-clause-added : goal.give-requires-clause-added
give-requires-clause-added g c =
    let author = g.B.Keeps.author in
    let value = c.take-value.result.value in
    let after = c.publish-published.new.self in
    let same = g.met.B.Desk.journals after ∙ (published_same c.args.expanded (g.B.Desk.book value).work (g.B.Desk.book after).work c.publish-published.result c.publish-published.ensures.work ∙ sym (g.met.B.Desk.journals value)) in
    subst (λ p. IsFollowedByOwn author p.number p.seen (g.B.Keeps.journal after)) (sym c.take-value.ensures.pass) (own_none author c.args.pass.now.number (g.B.Keeps.journal value) (g.B.Keeps.journal after) same)
