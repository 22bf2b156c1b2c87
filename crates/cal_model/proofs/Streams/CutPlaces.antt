-- A text cut at the first octet of a kind.
use Rattle.std.proofs.Common.{◌≡◌, ℕ, suc, ◌+◌, ◌-◌, ◌<◌, ◌≤◌, Bool, true, false, cond, not, ◌==◌, List, [], ◌∷◌, ◌++◌, length, take, drop, get_or, Some, None, refl, sym, ap, subst, ◌∙◌, arith, length-drop}
use Rattle.std.specs.List.{position_or_len}
use Rattle.std.proofs.lemmas.Bool.{eqb-true}
use Rattle.std.proofs.lemmas.Bool.Decides.{nat_tests}
use Rattle.std.proofs.lemmas.List.{take_all}
use Rattle.std.proofs.lemmas.List.Sums.{split_at_first, fails_before_first, passes_at_first}
use Rattle.cal_base.specs.Lines.ContentLines.{pieces}
use Rattle.cal_model.specs.Words.Cuts.{cut_at}
use Rattle.cal_model.proofs.Streams.HeadLaws.{Free, pieces_free, pieces_last, cut_free, cut_none}

free_from : (octet : ℕ) (text : List ℕ) → ((k : ℕ) → k < length text → (get_or text k 0 == octet) ≡ false) → Free octet text
unfolding Free
free_from octet [] apart = tt
free_from octet (c ∷ text) apart = (apart 0 (omega arith), free_from octet text (λ k within. apart (suc k) (omega arith)))

one_more : (n : ℕ) → 1 + n ≡ suc n
one_more n = omega arith

before_free : (octet : ℕ) (text : List ℕ) → Free octet (take (position_or_len (λ other. other == octet) text) text)
unfolding Free
before_free octet [] = tt
before_free octet (c ∷ text) = by (before_free octet text) (c == octet) refl
  where
    by : Free octet (take (position_or_len (λ other. other == octet) text) text) → (same : Bool) → (c == octet) ≡ same → Free octet (take (position_or_len (λ other. other == octet) (c ∷ text)) (c ∷ text))
    by free true is = rw is tt
    by free false is =
        let next : position_or_len (λ other. other == octet) (c ∷ text) ≡ suc (position_or_len (λ other. other == octet) text) = ap (λ b. cond (not b) (1 + position_or_len (λ other. other == octet) text) 0) is ∙ one_more _ in
        let P : ℕ → Type 0 = λ n. Free octet (take n (c ∷ text)) in
        subst P (sym next) (is, free)

same_octet : (octet : ℕ) → (octet == octet) ≡ true
same_octet octet = grind (arith, nat_tests)

split : (octet : ℕ) (text : List ℕ) (place : ℕ) → place ≡ position_or_len (λ other. other == octet) text → place < length text → text ≡ take place text ++ octet ∷ drop (place + 1) text
split octet text place is within =
    let P : ℕ → Type 0 = λ n. n < length text → text ≡ take n text ++ octet ∷ drop (n + 1) text in
    subst P (sym is) (λ inside. split_at_first (λ other. other == octet) text 0 inside ∙ ap (λ found. take (position_or_len (λ other. other == octet) text) text ++ found ∷ drop (position_or_len (λ other. other == octet) text + 1) text) (eqb-true _ _ (passes_at_first (λ other. other == octet) text 0 inside))) within

free_front : (octet : ℕ) (text : List ℕ) (place : ℕ) → place ≡ position_or_len (λ other. other == octet) text → Free octet (take place text)
free_front octet text place is = let P : ℕ → Type 0 = λ n. Free octet (take n text) in subst P (sym is) (before_free octet text)

pub pieces_cut : (octet : ℕ) (text : List ℕ) (place : ℕ) → place ≡ position_or_len (λ other. other == octet) text → place < length text → pieces octet text ≡ take place text ∷ pieces octet (drop (place + 1) text)
pieces_cut octet text place is within =
    ap (pieces octet) (split octet text place is within) ∙ pieces_free octet (take place text) (drop (place + 1) text) (same_octet octet) (free_front octet text place is)

pub cut_there : (octet : ℕ) (text : List ℕ) (place : ℕ) → place ≡ position_or_len (λ other. other == octet) text → place < length text → cut_at octet text ≡ Some (take place text, drop (place + 1) text)
cut_there octet text place is within =
    ap (cut_at octet) (split octet text place is within) ∙ cut_free octet (take place text) (drop (place + 1) text) (same_octet octet) (free_front octet text place is)

free_whole : (octet : ℕ) (text : List ℕ) (place : ℕ) → place ≡ position_or_len (λ other. other == octet) text → length text ≤ place → Free octet text
free_whole octet text place is past = free_from octet text (λ k within. fails_before_first (λ other. other == octet) text k 0 (omega arith))

pub pieces_whole : (octet : ℕ) (text : List ℕ) (place : ℕ) → place ≡ position_or_len (λ other. other == octet) text → length text ≤ place → pieces octet text ≡ text ∷ []
pieces_whole octet text place is past = pieces_last octet text (free_whole octet text place is past)

pub cut_nowhere : (octet : ℕ) (text : List ℕ) (place : ℕ) → place ≡ position_or_len (λ other. other == octet) text → length text ≤ place → cut_at octet text ≡ None
cut_nowhere octet text place is past = cut_none octet text (free_whole octet text place is past)

-- a slice from a place on
pub tail_is : (text : List ℕ) (place : ℕ) → take (length text - place) (drop place text) ≡ drop place text
tail_is text place = take_all (length text - place) (drop place text) (omega (arith, length-drop {A = ℕ}))
