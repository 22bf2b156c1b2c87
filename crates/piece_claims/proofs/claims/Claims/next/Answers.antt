use Rattle.std.proofs.Common.{◌∙◌, ap, sym, subst, ℤ, take, ◌-◌}
use Rattle.std.specs.Prelude.{MatchOption}
use Rattle.piece_claims.specs.Boards.{is_full, next_of}
use Rattle.piece_claims.specs.Lanes.{AreEmptyTo, IsNext}
use Rattle.piece_claims.specs.Out.{pairs_out}
use Rattle.piece_claims.proofs.KeptLemmas.{first_passed}
use Rattle.piece_claims.proofs.NextLemmas.{next_is, shown_same}
use Rattle.piece_claims.proofs.claims.Claims.next.Goals as goal

pub returns-clause-pair : goal.returns-clause-pair
returns-clause-pair c =
    let k = c.self.invariant.0 in
    next_is (record { live = take c.self.inside.entries c.self.inside.live; latest = c.self.inside.latest; pieces = c.self.inside.index.pieces; out = pairs_out c.self.inside.out.items; room = c.self.inside.limit - c.self.inside.entries }) c.self.inside.lanes c.self.inside.first c.self.inside.live k.horizon k.are_open (shown_same c.self.inside.entries c.self.inside.live k.unknown)
    (ap is_full c.self.view_is ∙ sym c.is_full.ensures ∙ c.if-is_full.false) c.next.result
    (subst (λ (f : ℤ). MatchOption c.next.result (AreEmptyTo c.self.inside.lanes 13) (λ p. IsNext c.self.inside.lanes f p.0 p.1)) (first_passed c.self.inside.first k.low k.high) c.next.ensures)
    ∙ ap next_of c.self.view_is
