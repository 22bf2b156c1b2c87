use Rattle.std.proofs.Common.{◌≡◌, subst, rules, ℤ, to_z, of_z, w32}
use Rattle.std.proofs.lemmas.Int.{to_z-of_z}
use Rattle.piece_claims.specs.Boards.{is_open_if, pair_at}
use Rattle.piece_claims.specs.Lanes.{IsRefreshedAt}
use Rattle.piece_claims.specs.Out.{pairs_out}
use Rattle.piece_claims.proofs.AgingLemmas.{open_without}
use Rattle.piece_claims.proofs.KeptLemmas.{first_passed}
use Rattle.piece_claims.proofs.aging.drop_oldest.Goals as goal

pub returns-clause-open : goal.returns-clause-open
returns-clause-open c =
    let whole : to_z w32 (of_z w32 c.in-Some.piece.window) ≡ c.in-Some.piece.window = to_z-of_z w32 c.in-Some.piece.window (search rules) in
    open_without c.args.lanes.now c.refresh_at.new.self c.args.first c.args.live.now c.in-Some.piece c.args.index.now.pieces c.drop_oldest.new.self.pieces (pairs_out c.args.out.now) c.contains-alive.result c.in-Some.ensures.piece c.requires.wide c.requires.live c.requires.open c.contains-alive.ensures
    (subst (λ (f : ℤ). IsRefreshedAt c.args.lanes.now c.refresh_at.new.self f c.in-Some.piece.origin c.in-Some.piece.window (is_open_if c.contains-alive.result c.drop_oldest.new.self.pieces (pairs_out c.args.out.now) (pair_at c.in-Some.piece.origin c.in-Some.piece.window))) (first_passed c.args.first c.requires.low c.requires.high)
    (subst (λ (w : ℤ). IsRefreshedAt c.args.lanes.now c.refresh_at.new.self (to_z w32 (of_z w32 c.args.first)) c.in-Some.piece.origin w (is_open_if c.contains-alive.result c.drop_oldest.new.self.pieces (pairs_out c.args.out.now) (pair_at c.in-Some.piece.origin w))) whole c.refresh_at.ensures))
