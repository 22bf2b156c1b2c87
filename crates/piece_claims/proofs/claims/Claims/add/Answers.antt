use Rattle.std.proofs.Common.{ap, arith, subst, sym, List, ℕ, ℤ}
use Rattle.std.specs.Prelude.{Bool}
use Rattle.piece_claims.specs.Boards.{Board, is_open_if, pair_at}
use Rattle.piece_claims.specs.Kept.{IsStored}
use Rattle.piece_claims.specs.Lanes.{IsRefreshed}
use Rattle.piece_claims.specs.Out.{pairs_out}
use Rattle.piece_claims.proofs.AgingLemmas.{stored_set}
use Rattle.piece_claims.proofs.KeptLemmas.{kept_added, first_passed}
use Rattle.piece_claims.proofs.claims.Claims.add.Goals as goal

pub invariant_of-self : goal.invariant_of-self
invariant_of-self c =
    let k = c.self.invariant.0 in (
      kept_added c.self.inside.index.pieces c.self.inside.out.items _ c.self.inside.latest c.self.inside.first c.self.inside.live c.put.new.self c.self.inside.entries c.self.inside.limit c.self.inside.lanes c.refresh.new.self c.args.alive k
          (let room = ap (λ (b : Board). b.room) c.self.view_is in let some = c.requires in omega (arith, room, some)) c.put.ensures
          (subst (λ (o : List (ℕ × ℤ)). IsRefreshed c.self.inside.lanes c.refresh.new.self c.self.inside.first c.self.inside.entries (λ z. is_open_if c.args.alive c.self.inside.index.pieces (pairs_out o) (pair_at c.self.inside.entries z))) c.deref.ensures.value
          (subst (λ (f : ℤ). IsRefreshed c.self.inside.lanes c.refresh.new.self f c.self.inside.entries (λ z. is_open_if c.args.alive c.self.inside.index.pieces (pairs_out c.deref.result.now) (pair_at c.self.inside.entries z))) (first_passed c.self.inside.first k.low k.high) c.refresh.ensures.lanes)),
      subst (λ (l : List Bool). IsStored c.self.inside.index c.self.inside.first l c.self.inside.counts) (sym c.put.ensures)
          (stored_set c.self.inside.index c.self.inside.first c.self.inside.live c.self.inside.counts c.self.inside.entries c.args.alive c.self.invariant.1 (k.unknown c.self.inside.entries (omega arith))),
      record { within = (let before = c.self.invariant.2.within in omega (arith, before)); filled_to = c.self.invariant.2.filled_to },
    )
