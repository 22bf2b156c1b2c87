use Rattle.std.proofs.Common.{◌≡◌, ◌∙◌, ap, sym, subst, List, ℕ, ℤ, to_z, of_z, w32, w64}
use Rattle.std.specs.Prelude.{vec_capacity}
use Rattle.std.proofs.lemmas.Int.{to_z-of_z}
use Rattle.piece_claims.specs.Kept.{IsKept, first_of}
use Rattle.piece_claims.specs.Lanes.{AreSwept}
use Rattle.piece_claims.specs.Out.{pairs_out}
use Rattle.piece_claims.proofs.AgingLemmas.{stored_moved}
use Rattle.piece_claims.proofs.KeptLemmas.{kept_at, kept_moved, first_passed}
use Rattle.piece_claims.proofs.claims.Claims.at.Goals as goal

pub invariant_of-self : goal.invariant_of-self
invariant_of-self c =
    (kept_at c.self.inside.index.pieces c.self.inside.out.items _ c.self.inside.latest _ c.self.inside.first c.self.inside.live c.self.inside.entries c.self.inside.limit c.self.inside.lanes c.self.invariant.0 (sym (first_passed c.self.inside.first c.self.invariant.0.low c.self.invariant.0.high) ∙ ap (to_z w32) (sym c.if-first-self.true) ∙ first_passed c.first_window-first.result c.first_window-first.ensures.low c.first_window-first.ensures.high ∙ c.first_window-first.ensures.window), c.self.invariant.1, c.self.invariant.2)

pub invariant_of-self-2 : goal.invariant_of-self-2
invariant_of-self-2 c =
    let moment_whole : to_z w64 (of_z w64 c.args.moment) ≡ c.args.moment = to_z-of_z w64 c.args.moment c.ranges.moment in
    let whole : to_z w32 (of_z w32 c.first_window-first.result) ≡ c.first_window-first.result = first_passed c.first_window-first.result c.first_window-first.ensures.low c.first_window-first.ensures.high in
    let swept =
    subst (λ (f : ℤ). AreSwept c.self.inside.lanes c.refresh_all.new.lanes f c.self.inside.live c.self.inside.index.pieces (pairs_out c.self.inside.out.items) c.self.inside.entries) whole
    (subst (λ (o : List (ℕ × ℤ)). AreSwept c.self.inside.lanes c.refresh_all.new.lanes (to_z w32 (of_z w32 c.first_window-first.result)) c.self.inside.live c.self.inside.index.pieces (pairs_out o) c.self.inside.entries) c.deref.ensures.value c.refresh_all.ensures.lanes) in (
      subst (λ (m : ℤ). IsKept c.self.inside.index.pieces c.self.inside.out.items (vec_capacity c.self.inside.out) m (to_z w32 (of_z w32 c.first_window-first.result)) c.self.inside.live c.self.inside.entries c.self.inside.limit c.refresh_all.new.lanes) (sym moment_whole)
          (subst (λ (f : ℤ). IsKept c.self.inside.index.pieces c.self.inside.out.items (vec_capacity c.self.inside.out) c.args.moment f c.self.inside.live c.self.inside.entries c.self.inside.limit c.refresh_all.new.lanes) (sym whole)
          (kept_moved c.self.inside.index.pieces c.self.inside.out.items _ c.self.inside.latest c.self.inside.first c.args.moment c.first_window-first.result c.self.inside.live c.self.inside.entries c.self.inside.limit c.self.inside.lanes c.refresh_all.new.lanes c.self.invariant.0 swept (c.first_window-first.ensures.window ∙ ap (λ (m : ℤ). first_of m) moment_whole) c.first_window-first.ensures.low c.first_window-first.ensures.high)),
      stored_moved c.self.inside.index c.self.inside.first (to_z w32 (of_z w32 c.first_window-first.result)) c.self.inside.live c.self.inside.entries c.self.inside.counts c.count-self-inside.result c.self.invariant.1 c.self.invariant.0.unknown c.count-self-inside.ensures,
      c.self.invariant.2,
    )
