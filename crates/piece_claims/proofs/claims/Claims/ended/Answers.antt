use Rattle.std.proofs.Common.{◌∙◌, ◌-◌, ap, sym, subst, arith, take, set, filter, false, List, ℕ, ℤ}
use Rattle.std.specs.Prelude.{Bool, pos, ◌+ℤ◌, ◌≤◌}
use Rattle.std.proofs.Math.Seq.{take-set-lt}
use Rattle.cal_model.specs.declared.piece.Piece.{Piece}
use Rattle.cal_model.specs.Pieces.KeptPieces.{KeptPieces}
use Rattle.cal_model.specs.Pieces.PieceLists.{is_other_piece}
use Rattle.piece_claims.specs.Boards.{Board, pair_at, is_open_if}
use Rattle.piece_claims.specs.Lanes.{IsRefreshed}
use Rattle.piece_claims.specs.Out.{pairs_out}
use Rattle.piece_claims.specs.Counts.{count_at, size_at, HasMoreOf}
use Rattle.piece_claims.proofs.AgingLemmas.{size_within, stored_ended}
use Rattle.piece_claims.proofs.KeptLemmas.{kept_ended, known_below, first_passed}
use Rattle.piece_claims.proofs.claims.Claims.ended.Goals as goal

pub invariant_of-self : goal.invariant_of-self
invariant_of-self g c = (
  kept_ended c.self.inside.index.pieces _ c.self.inside.out.items _ _ _ _ _ _ _ _ _ c.args.origin c.self.invariant.0
      (known_below c.self.inside.entries c.self.inside.live _ c.args.origin (ap (λ (s : Board). s.live) c.self.view_is) c.requires)
      (ap (λ (k : KeptPieces). k.pieces) c.drop_object.ensures.pieces) c.put.ensures
      (subst (λ (o : List (ℕ × ℤ)). IsRefreshed c.self.inside.lanes c.refresh.new.self c.self.inside.first c.args.origin (λ z. is_open_if false c.drop_object.new.self.pieces (pairs_out o) (pair_at c.args.origin z))) c.deref.ensures.value
      (subst (λ (first : ℤ). IsRefreshed c.self.inside.lanes c.refresh.new.self first c.args.origin (λ z. is_open_if false c.drop_object.new.self.pieces (pairs_out c.deref.result.now) (pair_at c.args.origin z))) (first_passed c.self.inside.first c.self.invariant.0.low c.self.invariant.0.high) c.refresh.ensures.lanes)),
  stored_ended c.self.inside.index c.drop_object.new.self c.self.inside.first c.self.inside.live c.put.new.self c.self.inside.counts c.take_object.new.self c.args.origin c.self.invariant.1 c.drop_object.ensures.pieces c.put.ensures
      (subst (λ (f : ℤ). HasMoreOf c.take_object.new.self c.self.inside.counts f c.args.origin c.self.inside.index.pieces) (first_passed c.self.inside.first c.self.invariant.0.low c.self.invariant.0.high) c.take_object.ensures),
  record {
    within = (let before = c.self.invariant.2.within in let less = c.renew.ensures.within in omega (arith, before, less));
    filled_to = c.renew.ensures.filled c.self.inside.index.pieces c.drop_object.ensures.others c.self.invariant.2.filled_to;
  },
)

pub take_object-requires-clause-there : goal.take_object-requires-clause-there
take_object-requires-clause-there g c k below =
    subst (λ (f : ℤ). size_at c.args.origin (f +ℤ pos k) c.self.inside.index.pieces ≤ count_at c.self.inside.counts k) (sym (first_passed c.self.inside.first c.self.invariant.0.low c.self.invariant.0.high))
    (size_within c.self.inside.index c.self.inside.first c.self.inside.live c.self.inside.counts c.args.origin c.self.invariant.1 k below)

pub returns-clause-board : goal.returns-clause-board
returns-clause-board g c =
    let known = known_below c.self.inside.entries c.self.inside.live _ c.args.origin (ap (λ (s : Board). s.live) c.self.view_is) c.requires in
    let of_live : List Bool → Board = λ l. record { live = l; latest = c.self.inside.latest; pieces = c.drop_object.new.self.pieces; out = pairs_out c.self.inside.out.items; room = c.self.inside.limit - c.self.inside.entries } in
    let of_pieces : List Piece → Board = λ ps. record { live = set (take c.self.inside.entries c.self.inside.live) c.args.origin false; latest = c.self.inside.latest; pieces = ps; out = pairs_out c.self.inside.out.items; room = c.self.inside.limit - c.self.inside.entries } in
    ap of_live (ap (take c.self.inside.entries) c.put.ensures ∙ take-set-lt c.self.inside.entries c.self.inside.live c.args.origin false known)
    ∙ ap of_pieces (ap (λ (k : KeptPieces). k.pieces) c.drop_object.ensures.pieces)
    ∙ ap (λ (s : Board). record s { live = set s.live c.args.origin false; pieces = filter (is_other_piece c.args.origin) s.pieces }) c.self.view_is
