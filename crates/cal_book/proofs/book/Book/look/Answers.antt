use Rattle.std.proofs.Common.{sym, ◌∙◌, subst}
use Rattle.std.proofs.lemmas.Option.{IfSome_then}
use Rattle.std.specs.Prelude.{IfSome}
use Rattle.cal_book.specs.Books.{IsBook, core_of}
use Rattle.cal_book.specs.Cores.{Core, spare_of}
use Rattle.cal_book.specs.Keeping.KeptHistories.{Kept}
use Rattle.cal_book.specs.Looks.{IsLookAt}
use Rattle.piece_claims.specs.Boards.{Board}
use Rattle.cal_book.proofs.book.Book.look.Goals as goal

pub invariant_of-self : goal.invariant_of-self
invariant_of-self c =
    let room = c.self.inside.room in
    subst (λ (history : Kept). IsBook history c.look_for.new.claims room) (sym c.look_for.ensures.history)
    (subst (λ (claims : Board). IsBook c.self.inside.history claims room) (sym c.look_for.ensures.claims) c.self.invariant)

pub returns-clause-same : goal.returns-clause-same
returns-clause-same c = (λ i. core_of (c.look_for.ensures.history i) (c.look_for.ensures.claims i) c.self.inside.room) ∙ c.self.view_is

pub returns-clause-at : goal.returns-clause-at
returns-clause-at c =
    let inside = c.self.inside in
    subst (λ (core : Core). IfSome c.look_for.result (IsLookAt core c.args.event.now)) c.self.view_is
    (IfSome_then c.look_for.result c.look_for.ensures.at (λ look at. at (spare_of inside.history.room inside.claims.room inside.room.room)))
