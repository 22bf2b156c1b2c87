use Rattle.std.proofs.Common.{◌≡◌, ◌∙◌, ap, sym, subst, arith, true, length, List, ℕ, ℤ, to_z, of_z, w32}
use Rattle.piece_claims.proofs.OutLemmas.{length-pairs_out}
use Rattle.number_set.specs.Sets.{has}
use Rattle.piece_claims.specs.Boards.{Board, is_open_if, pair_at}
use Rattle.piece_claims.specs.Lanes.{IsRefreshedAt}
use Rattle.piece_claims.specs.Out.{pairs_out}
use Rattle.piece_claims.proofs.KeptLemmas.{kept_claimed, first_passed}
use Rattle.piece_claims.proofs.NextLemmas.{shown_same}
use Rattle.piece_claims.proofs.claims.Claims.put_out.Goals as goal

pub invariant_of-self : goal.invariant_of-self
invariant_of-self c =
    let k = c.self.invariant.0 in
    let alive : has c.self.inside.live c.args.origin ≡ true =
    sym (shown_same c.self.inside.entries c.self.inside.live k.unknown c.args.origin) ∙ ap (λ (b : Board). has b.live c.args.origin) c.self.view_is ∙ c.requires.live in (
      kept_claimed c.self.inside.index.pieces c.self.inside.out.items c.push_reserved.new.self.items _ _ c.self.inside.latest c.self.inside.first c.self.inside.live c.self.inside.entries c.self.inside.limit c.self.inside.lanes c.refresh_at.new.self c.args.origin (to_z w32 (of_z w32 c.args.window)) k alive
          (let few = c.requires.few in let same = ap (λ (b : Board). length b.out) c.self.view_is in omega (arith, few, same, length-pairs_out c.self.inside.out.items))
          c.push_reserved.ensures.items c.push_reserved.ensures.capacity
          (subst (λ (o : List (ℕ × ℤ)). IsRefreshedAt c.self.inside.lanes c.refresh_at.new.self c.self.inside.first c.args.origin (to_z w32 (of_z w32 c.args.window)) (is_open_if true c.self.inside.index.pieces (pairs_out o) (pair_at c.args.origin (to_z w32 (of_z w32 c.args.window))))) c.deref.ensures.value
          (subst (λ (f : ℤ). IsRefreshedAt c.self.inside.lanes c.refresh_at.new.self f c.args.origin (to_z w32 (of_z w32 c.args.window)) (is_open_if true c.self.inside.index.pieces (pairs_out c.deref.result.now) (pair_at c.args.origin (to_z w32 (of_z w32 c.args.window))))) (first_passed c.self.inside.first k.low k.high) c.refresh_at.ensures)),
      c.self.invariant.1,
      c.self.invariant.2,
    )
