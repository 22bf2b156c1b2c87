-- The next claim over a journal and over the flags of its entries.
use Rattle.std.proofs.Common.{◌≡◌, ℕ, Bool, ◌&&◌, if◌then◌else◌, List, [], ◌∷◌, length, filter, None, refl, ap, ◌∙◌}
use Rattle.std.specs.Prelude.{not, is_some, flat_map, map}
use Rattle.std.specs.List.{list_any, range_with_len}
use Rattle.cal_base.specs.Lines.ComponentTrees.{first}
use Rattle.cal_model.specs.History.Journal.{Entry}
use Rattle.cal_model.specs.History.LiveObjects.{live_at}
use Rattle.cal_model.specs.History.Claims as claims
use Rattle.cal_model.specs.History.Claims.{Pair, Work, horizon, pair_of, same_pair, next_claim}
use Rattle.number_set.specs.Sets.{has}
use Rattle.piece_claims.specs.Boards.{Board, Shows, work_of, pair_at, is_open, is_full, next_of}

filter_ext : (p q : Pair → Bool) → ((x : Pair) → p x ≡ q x) → (xs : List Pair) → filter p xs ≡ filter q xs
filter_ext p q same [] = refl
filter_ext p q same (x ∷ xs) =
    ap (λ b. if b then x ∷ filter p xs else filter p xs) (same x)
    ∙ ap (λ ys. if q x then x ∷ ys else ys) (filter_ext p q same xs)

over_flags : (journal : List Entry) (board : Board) → length journal ≡ length board.live → ((n : ℕ) → is_some (live_at journal n) ≡ has board.live n) → next_claim (record { journal = journal; latest = board.latest; pieces = board.pieces; out = board.out }) ≡ next_of board
over_flags journal board entries live =
    ap (λ n. if is_full board then None else first (filter (claims.is_open work) (flat_map (λ window. map (λ origin. pair_at origin window) (range_with_len 0 n)) (horizon (work_of board))))) entries
    ∙ ap (λ pairs. if is_full board then None else first pairs) (filter_ext (claims.is_open work) (is_open board) same _)
  where
    work : Work
    work = record { journal = journal; latest = board.latest; pieces = board.pieces; out = board.out }

    same : (pair : Pair) → claims.is_open (record { journal = journal; latest = board.latest; pieces = board.pieces; out = board.out }) pair ≡ is_open board pair
    same pair = ap (λ b. b && not (list_any (λ piece. same_pair (pair_of piece) pair) board.pieces) && not (list_any (same_pair pair) board.out)) (live pair.origin)

pub next_over_flags : (board : Board) (work : Work) → Shows board work → next_claim work ≡ next_of board
next_over_flags board work shows =
    ap (λ z. next_claim (record { journal = work.journal; latest = z; pieces = work.pieces; out = work.out })) shows.latest
    ∙ ap (λ ps. next_claim (record { journal = work.journal; latest = board.latest; pieces = ps; out = work.out })) shows.pieces
    ∙ ap (λ o. next_claim (record { journal = work.journal; latest = board.latest; pieces = board.pieces; out = o })) shows.out
    ∙ over_flags work.journal board shows.entries shows.live
