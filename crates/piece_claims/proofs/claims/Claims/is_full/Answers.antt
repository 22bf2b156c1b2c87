use Rattle.std.proofs.Common.{◌∙◌, ap, arith, take, ◌-◌}
use Rattle.piece_claims.proofs.OutLemmas.{length-pairs_out}
use Rattle.std.specs.Prelude.{pos, ◌+ℤ◌}
use Rattle.piece_claims.specs.Boards.{Board, is_full}
use Rattle.piece_claims.specs.Out.{pairs_out}
use Rattle.piece_claims.proofs.CountLemmas.{total_is, window_le}
use Rattle.piece_claims.proofs.NextLemmas.{full_by_rows}
use Rattle.piece_claims.proofs.claims.Claims.is_full.Goals as goal

pub total-requires : goal.total-requires
total-requires c k below =
    let counted = c.self.invariant.1.counted k below in
    let some = window_le (c.self.inside.first +ℤ pos k) c.self.inside.index.pieces in
    let within = c.self.invariant.1.within in
    omega (arith, counted, some, within)

pub returns-else-len-ge-MOST_OUT : goal.returns-else-len-ge-MOST_OUT
returns-else-len-ge-MOST_OUT c =
    let board : Board = record { live = take c.self.inside.entries c.self.inside.live; latest = c.self.inside.latest; pieces = c.self.inside.index.pieces; out = pairs_out c.self.inside.out.items; room = c.self.inside.limit - c.self.inside.entries } in
    full_by_rows board c.total.result (let few = c.if-len-ge-MOST_OUT.false in let size = c.len.ensures in omega (arith, few, size, length-pairs_out c.self.inside.out.items))
    (c.total.ensures.rows ∙ total_is c.self.inside.counts c.self.inside.first board c.total.ensures.count c.self.invariant.0.horizon c.self.invariant.1.counted)
    ∙ ap is_full c.self.view_is
