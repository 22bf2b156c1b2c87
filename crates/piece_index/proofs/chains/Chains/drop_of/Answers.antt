use Rattle.std.proofs.Common.{◌∙◌, sym, ap, arith}
use Rattle.piece_index.specs.Entries.{pieces_of}
use Rattle.piece_index.proofs.PieceLemmas.{rows_out, others_stay, one_fewer, all_others}
use Rattle.piece_index.proofs.chains.Chains.drop_of.Goals as goal

pub overflow_sub-left : goal.overflow_sub-left
overflow_sub-left g c = omega (arith, rows_out c.in-Some.piece _ _ c.in-Some.ensures.0)

pub loop-piece-preserved : goal.loop-piece-preserved
loop-piece-preserved g c =
    let out = c.in-Some.ensures.0 in
    let own = c.in-Some.ensures.1 in
    record {
      rows = omega (arith, rows_out c.in-Some.piece _ _ out);
      fits = omega arith;
      same = others_stay c.in-Some.piece _ _ out c.args.origin own ∙ c.loop-piece.invariant.same;
      cost = omega (arith, one_fewer c.in-Some.piece _ _ out c.args.origin own);
    }

pub returns-clause-pieces : goal.returns-clause-pieces
returns-clause-pieces g c =
    ap pieces_of c.in_default.ensures.1 ∙ sym (all_others c.args.origin _ c.in_default.ensures.0) ∙ c.loop-piece.invariant.same
