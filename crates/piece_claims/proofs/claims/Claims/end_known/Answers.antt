use Rattle.std.proofs.Common.{◌≡◌, ◌∙◌, ◌-◌, ap, subst, of_z, to_z, w32, take, filter, List, ℕ, ℤ}
use Rattle.std.specs.Prelude.{not, Bool}
use Rattle.std.proofs.lemmas.Int.{to_z-of_z}
use Rattle.cal_model.specs.History.Claims.{Pair, without_claim}
use Rattle.number_set.specs.Sets.{has}
use Rattle.piece_claims.specs.Boards.{Board, pair_at, is_open_if}
use Rattle.piece_claims.specs.Lanes.{IsRefreshedAt}
use Rattle.piece_claims.specs.Out.{pairs_out, is_pair}
use Rattle.piece_claims.proofs.OutLemmas.{without_out}
use Rattle.piece_claims.proofs.KeptLemmas.{kept_end, known_below, first_passed}
use Rattle.piece_claims.proofs.claims.Claims.end_known.Goals as goal

pub invariant_of-self : goal.invariant_of-self
invariant_of-self c =
    let whole : to_z w32 (of_z w32 c.args.window) ≡ c.args.window = to_z-of_z w32 c.args.window c.ranges.window in (
      kept_end c.self.inside.index.pieces c.self.inside.out.items _ _ _ _ _ _ _ _ _ _ c.args.origin (to_z w32 (of_z w32 c.args.window)) c.self.invariant.0
          (known_below c.self.inside.entries c.self.inside.live _ c.args.origin (ap (λ (s : Board). s.live) c.self.view_is) c.requires) c.end.ensures.pairs c.end.ensures.room
          (subst (λ (o : List (ℕ × ℤ)). IsRefreshedAt c.self.inside.lanes c.refresh_at.new.self c.self.inside.first c.args.origin (to_z w32 (of_z w32 c.args.window)) (is_open_if (has c.self.inside.live c.args.origin) c.self.inside.index.pieces (pairs_out o) (pair_at c.args.origin (to_z w32 (of_z w32 c.args.window))))) c.deref.ensures.value
          (subst (λ (b : Bool). IsRefreshedAt c.self.inside.lanes c.refresh_at.new.self c.self.inside.first c.args.origin (to_z w32 (of_z w32 c.args.window)) (is_open_if b c.self.inside.index.pieces (pairs_out c.deref.result.now) (pair_at c.args.origin (to_z w32 (of_z w32 c.args.window))))) c.contains-alive.ensures
          (subst (λ (first : ℤ). IsRefreshedAt c.self.inside.lanes c.refresh_at.new.self first c.args.origin (to_z w32 (of_z w32 c.args.window)) (is_open_if c.contains-alive.result c.self.inside.index.pieces (pairs_out c.deref.result.now) (pair_at c.args.origin (to_z w32 (of_z w32 c.args.window))))) (first_passed c.self.inside.first c.self.invariant.0.low c.self.invariant.0.high) c.refresh_at.ensures))),
      c.self.invariant.1,
      c.self.invariant.2,
    )

pub returns : goal.returns
returns c =
    let whole : to_z w32 (of_z w32 c.args.window) ≡ c.args.window = to_z-of_z w32 c.args.window c.ranges.window in
    let now : pairs_out c.end.new.out.items ≡ without_claim (pair_at c.args.origin c.args.window) (pairs_out c.self.inside.out.items) =
    ap pairs_out c.end.ensures.pairs
    ∙ ap (λ (w : ℤ). pairs_out (filter (λ (p : ℕ × ℤ). not (is_pair c.args.origin w p)) c.self.inside.out.items)) whole
    ∙ without_out c.args.origin c.args.window c.self.inside.out.items in
    let of_out : List Pair → Board = λ o. record { live = take c.self.inside.entries c.self.inside.live; latest = c.self.inside.latest; pieces = c.self.inside.index.pieces; out = o; room = c.self.inside.limit - c.self.inside.entries } in
    ap of_out now ∙ ap (λ (s : Board). record s { out = without_claim (pair_at c.args.origin c.args.window) s.out }) c.self.view_is
