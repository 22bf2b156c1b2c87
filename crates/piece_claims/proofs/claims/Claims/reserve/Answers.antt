use Rattle.std.proofs.Common.{◌-◌, length, arith}
use Rattle.piece_claims.proofs.AgingLemmas.{stored_grown}
use Rattle.piece_claims.proofs.KeptLemmas.{kept_grown, wide_after}
use Rattle.piece_claims.proofs.claims.Claims.reserve.Goals as goal

pub invariant_of-self-in_err-grow-2 : goal.invariant_of-self-in_err-grow-2
invariant_of-self-in_err-grow-2 c =
    let k = c.self.invariant.0 in (
      kept_grown c.self.inside.index.pieces c.self.inside.out.items _ c.self.inside.latest c.self.inside.first c.self.inside.live c.grow.new.self c.self.inside.entries c.self.inside.limit c.self.inside.limit (length c.grow.new.self - length c.self.inside.live) c.self.inside.lanes c.grow-2.new.self k c.grow.ensures.grown c.grow-2.ensures.same (wide_after c.self.inside.lanes c.grow-2.new.self c.self.inside.limit k.lanes_wide c.grow-2.ensures.same) (let wide = k.live_wide in let longer = c.grow.ensures.longer in omega (arith, wide, longer)) k.fits,
      stored_grown c.self.inside.index c.self.inside.first c.self.inside.live c.grow.new.self c.self.inside.counts (length c.grow.new.self - length c.self.inside.live) c.self.invariant.1 c.grow.ensures.grown,
      c.self.invariant.2,
    )

pub invariant_of-self-2 : goal.invariant_of-self-2
invariant_of-self-2 c =
    let k = c.self.invariant.0 in (
      kept_grown c.self.inside.index.pieces c.self.inside.out.items _ c.self.inside.latest c.self.inside.first c.self.inside.live c.grow.new.self c.self.inside.entries c.self.inside.limit _ (length c.grow.new.self - length c.self.inside.live) c.self.inside.lanes c.grow-2.new.self k c.grow.ensures.grown c.grow-2.ensures.same c.in_ok-grow-2.ensures.ok c.in_ok-grow.ensures.ok (omega arith),
      stored_grown c.self.inside.index c.self.inside.first c.self.inside.live c.grow.new.self c.self.inside.counts (length c.grow.new.self - length c.self.inside.live) c.self.invariant.1 c.grow.ensures.grown,
      c.self.invariant.2,
    )
