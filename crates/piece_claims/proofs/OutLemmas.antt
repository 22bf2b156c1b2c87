-- Pairs that are out, by their numbers and as pairs; and pieces that are found or not.
use Rattle.std.proofs.Common.{◌≡◌, ℕ, suc, Bool, true, false, ◌&&◌, ◌||◌, ◌==◌, if◌then◌else◌, List, [], ◌∷◌, length, filter, Option, Some, None, refl, sym, ap, ◌∙◌}
use Rattle.std.specs.Prelude.{ℤ, pos, negsuc, not, is_none, is_some}
use Rattle.std.specs.Borrow.{Bor}
use Rattle.std.specs.Option.{option_copied}
use Rattle.std.specs.Ordering.{int_eq}
use Rattle.std.specs.List.{list_any}
use Rattle.std.proofs.lemmas.Bool.Decides.{Decides-int_eq, Decides-eqb}
use Rattle.cal_model.specs.Words.Integers.{same_int}
use Rattle.cal_model.specs.History.Claims.{pair_of, same_pair, without_claim}
use Rattle.cal_model.specs.declared.piece.Piece.{Piece}
use Rattle.cal_model.specs.declared.row.Row.{Row}
use Rattle.cal_model.specs.Pieces.PieceLists.{is_piece_at, rows_at}
use Rattle.piece_claims.specs.Boards.{pair_at, is_open_if}
use Rattle.piece_claims.specs.Out.{pairs_out, is_pair}

same_int-refl : (x : ℤ) → same_int x x ≡ true
same_int-refl (pos a) = (Decides-eqb a a).1 refl
same_int-refl (negsuc a) = (Decides-eqb a a).1 refl

pub same_int-is : (x y : ℤ) → same_int x y ≡ true → x ≡ y
same_int-is (pos a) (pos b) is = ap pos ((Decides-eqb a b).0 is)
same_int-is (pos a) (negsuc b) is = absurd (cc)
same_int-is (negsuc a) (pos b) is = absurd (cc)
same_int-is (negsuc a) (negsuc b) is = ap negsuc ((Decides-eqb a b).0 is)

same_bool : (a b : Bool) → (a ≡ true → b ≡ true) → (b ≡ true → a ≡ true) → a ≡ b
same_bool true b f g = sym (f refl)
same_bool false true f g = g refl
same_bool false false f g = refl

pub same_int-int_eq : (x y : ℤ) → int_eq x y ≡ same_int y x
same_int-int_eq x y =
    same_bool (int_eq x y) (same_int y x) (λ is. ap (λ z. same_int y z) ((Decides-int_eq x y).0 is) ∙ same_int-refl y)
    (λ is. (Decides-int_eq x y).1 (sym (same_int-is y x is)))

pub same_int-flip : (x y : ℤ) → int_eq x y ≡ same_int x y
same_int-flip x y =
    same_bool (int_eq x y) (same_int x y) (λ is. ap (λ z. same_int z y) ((Decides-int_eq x y).0 is) ∙ same_int-refl y)
    (λ is. (Decides-int_eq x y).1 (same_int-is x y is))

pub eqb_flip : (a b : ℕ) → (a == b) ≡ (b == a)
eqb_flip a b = same_bool (a == b) (b == a) (λ is. (Decides-eqb b a).1 (sym ((Decides-eqb a b).0 is))) (λ is. (Decides-eqb a b).1 (sym ((Decides-eqb b a).0 is)))

is_pair-same : (o : ℕ) (w : ℤ) (p : ℕ × ℤ) → same_pair (pair_at o w) (pair_at p.0 p.1) ≡ is_pair o w p
is_pair-same o w p =
    ap (λ b. b && same_int w p.1) (eqb_flip o p.0) ∙ ap (λ b. (p.0 == o) && b) (sym (same_int-int_eq p.1 w))

pub any_out : (o : ℕ) (w : ℤ) (out : List (ℕ × ℤ)) → list_any (is_pair o w) out ≡ list_any (same_pair (pair_at o w)) (pairs_out out)
any_out o w [] = refl
any_out o w (p ∷ out) =
    ap (λ b. b || list_any (is_pair o w) out) (sym (is_pair-same o w p))
    ∙ ap (λ b. same_pair (pair_at o w) (pair_at p.0 p.1) || b) (any_out o w out)

pub without_out : (o : ℕ) (w : ℤ) (out : List (ℕ × ℤ)) → pairs_out (filter (λ p. not (is_pair o w p)) out) ≡ without_claim (pair_at o w) (pairs_out out)
without_out o w [] = refl
without_out o w (p ∷ out) =
    by_test (is_pair o w p) (without_out o w out)
    ∙ ap (λ b. if not b then pair_at p.0 p.1 ∷ without_claim (pair_at o w) (pairs_out out) else without_claim (pair_at o w) (pairs_out out)) (sym (is_pair-same o w p))
  where
    by_test : (b : Bool) → pairs_out (filter (λ p. not (is_pair o w p)) out) ≡ without_claim (pair_at o w) (pairs_out out) → pairs_out (if not b then p ∷ filter (λ q. not (is_pair o w q)) out else filter (λ q. not (is_pair o w q)) out) ≡ (if not b then pair_at p.0 p.1 ∷ without_claim (pair_at o w) (pairs_out out) else without_claim (pair_at o w) (pairs_out out))
    by_test true rest = rest
    by_test false rest = ap (λ xs. pair_at p.0 p.1 ∷ xs) rest

-- a piece is found where one is of the pair
pub none_at : (o : ℕ) (w : ℤ) (pieces : List Piece) → is_none (rows_at o w pieces) ≡ not (list_any (λ piece. same_pair (pair_of piece) (pair_at o w)) pieces)
none_at o w [] = refl
none_at o w (p ∷ pieces) =
    by_test (is_piece_at o w p) (none_at o w pieces)
    ∙ ap (λ b. not (b || list_any (λ piece. same_pair (pair_of piece) (pair_at o w)) pieces)) (ap (λ b. (p.origin == o) && b) (same_int-flip p.window w))
  where
    by_test : (b : Bool) → is_none (rows_at o w pieces) ≡ not (list_any (λ piece. same_pair (pair_of piece) (pair_at o w)) pieces) → is_none (if b then Some p.rows else rows_at o w pieces) ≡ not (b || list_any (λ piece. same_pair (pair_of piece) (pair_at o w)) pieces)
    by_test true rest = refl
    by_test false rest = rest

is_none-copied : (r : Option (Bor (List Row))) (x : Option (List Row)) → option_copied r ≡ x → is_none r ≡ is_none x
is_none-copied None x same = ap is_none same
is_none-copied (Some y) x same = ap is_none same

-- a test and its negation
pub other_way : (a b : Bool) → a ≡ not b → b ≡ not a
other_way a true is = ap not (sym is)
other_way a false is = ap not (sym is)

-- the three answers of the test
module _ (alive : Bool) (pieces : List Piece) (out : List (ℕ × ℤ)) (o : ℕ) (w : ℤ) where
  pub claimed_out : list_any (is_pair o w) out ≡ true → false ≡ is_open_if alive pieces (pairs_out out) (pair_at o w)
  claimed_out is =
      both_false (alive && not (list_any (λ piece. same_pair (pair_of piece) (pair_at o w)) pieces))
      ∙ ap (λ b. alive && not (list_any (λ piece. same_pair (pair_of piece) (pair_at o w)) pieces) && not b) (sym is ∙ any_out o w out)
    where
      both_false : (b : Bool) → false ≡ (b && false)
      both_false true = refl
      both_false false = refl

  pub by_piece : (r : Option (Bor (List Row))) → alive ≡ true → list_any (is_pair o w) out ≡ false → option_copied r ≡ rows_at o w pieces → is_none r ≡ is_open_if alive pieces (pairs_out out) (pair_at o w)
  by_piece r lives free found =
      is_none-copied r (rows_at o w pieces) found
      ∙ none_at o w pieces
      ∙ both_true (not (list_any (λ piece. same_pair (pair_of piece) (pair_at o w)) pieces))
      ∙ ap (λ b. b && not (list_any (λ piece. same_pair (pair_of piece) (pair_at o w)) pieces) && true) (sym lives)
      ∙ ap (λ b. alive && not (list_any (λ piece. same_pair (pair_of piece) (pair_at o w)) pieces) && not b) (sym free ∙ any_out o w out)
    where
      both_true : (b : Bool) → b ≡ (true && b && true)
      both_true true = refl
      both_true false = refl

-- as many pairs as numbers stand for them
pub length-pairs_out : (out : List (ℕ × ℤ)) → length (pairs_out out) ≡ length out
length-pairs_out [] = refl
length-pairs_out (p ∷ out) = ap suc (length-pairs_out out)

-- what was looked for and not found is not there
pub none_if_not_found : (r : Option (Bor (List Row))) (x : Option (List Row)) → option_copied r ≡ x → is_some r ≡ false → x ≡ None
none_if_not_found None x same none = sym same
none_if_not_found (Some y) x same none = absurd (cc)
