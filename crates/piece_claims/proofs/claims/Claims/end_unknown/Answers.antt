use Rattle.std.proofs.Common.{◌≡◌, ◌∙◌, ◌-◌, ap, arith, of_z, to_z, w32, take, filter, List, ℕ, ℤ}
use Rattle.std.specs.Prelude.{not}
use Rattle.std.proofs.lemmas.Int.{to_z-of_z}
use Rattle.cal_model.specs.History.Claims.{Pair, without_claim}
use Rattle.piece_claims.specs.Boards.{Board, pair_at}
use Rattle.piece_claims.specs.Out.{pairs_out, is_pair}
use Rattle.piece_claims.proofs.OutLemmas.{without_out}
use Rattle.piece_claims.proofs.KeptLemmas.{kept_end_unknown, unknown_above}
use Rattle.piece_claims.proofs.claims.Claims.end_unknown.Goals as goal

pub invariant_of-self : goal.invariant_of-self
invariant_of-self c =
    let whole : to_z w32 (of_z w32 c.args.window) ≡ c.args.window = to_z-of_z w32 c.args.window c.ranges.window in
    (kept_end_unknown c.self.inside.index.pieces c.self.inside.out.items _ _ _ _ _ _ _ _ _ c.args.origin (to_z w32 (of_z w32 c.args.window)) c.self.invariant.0 (unknown_above c.self.inside.entries c.self.inside.live _ c.args.origin (let room = c.self.invariant.0.live_wide in let fits = c.self.invariant.0.fits in omega arith) (ap (λ (s : Board). s.live) c.self.view_is) c.requires) c.end.ensures.pairs c.end.ensures.room, c.self.invariant.1, c.self.invariant.2)

pub returns : goal.returns
returns c =
    let whole : to_z w32 (of_z w32 c.args.window) ≡ c.args.window = to_z-of_z w32 c.args.window c.ranges.window in
    let now : pairs_out c.end.new.out.items ≡ without_claim (pair_at c.args.origin c.args.window) (pairs_out c.self.inside.out.items) =
    ap pairs_out c.end.ensures.pairs
    ∙ ap (λ (w : ℤ). pairs_out (filter (λ (p : ℕ × ℤ). not (is_pair c.args.origin w p)) c.self.inside.out.items)) whole
    ∙ without_out c.args.origin c.args.window c.self.inside.out.items in
    let of_out : List Pair → Board = λ o. record { live = take c.self.inside.entries c.self.inside.live; latest = c.self.inside.latest; pieces = c.self.inside.index.pieces; out = o; room = c.self.inside.limit - c.self.inside.entries } in
    ap of_out now ∙ ap (λ (s : Board). record s { out = without_claim (pair_at c.args.origin c.args.window) s.out }) c.self.view_is
