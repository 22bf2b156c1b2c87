-- What holds of each component by its number, of each number up to the greatest, and of each row that is put in order.
use Rattle.std.proofs.Common.{◌≡◌, ℕ, suc, ◌+◌, ◌≤◌, List, [], ◌∷◌, refl, arith, inl, inr}
use Rattle.std.specs.Prelude.{All, max, slice_get, Some}
use Rattle.std.proofs.lemmas.Bool.{cases_Bool}
use Rattle.std.proofs.lemmas.List.Elements.{All-head, All-tail, All-nil, All-cons, All-weaker}
use Rattle.cal_model.specs.declared.object.Component.{Component}
use Rattle.cal_model.specs.declared.row.Row.{Row}
use Rattle.cal_model.specs.Ranges.Cost.{greatest}
use Rattle.cal_model.specs.Instances.Rows.{Numbered, numbered_from, comes_before, put_row, in_order}

-- a component stands at its number
pub All-numbered_from : (P : Numbered → Type 0) (n : ℕ) (cs : List Component) → ((i j : ℕ) (c : Component) → j ≡ n + i → slice_get cs i ≡ Some c → P (record { number = j; component = c })) → All P (numbered_from n cs)
All-numbered_from P n [] h = All-nil P
All-numbered_from P n (c ∷ cs) h =
    All-cons P (record { number = n; component = c }) (numbered_from (n + 1) cs) (h 0 n c (omega arith) refl)
    (All-numbered_from P (n + 1) cs (λ i j d e found. h (suc i) j d (omega (arith, e)) found))

pub All-greatest : (ns : List ℕ) → All (λ n. n ≤ greatest ns) ns
All-greatest [] = All-nil _
All-greatest (n ∷ ns) =
    All-cons (λ m. m ≤ max n (greatest ns)) n ns (omega arith)
    (All-weaker (λ m. m ≤ greatest ns) (λ m. m ≤ max n (greatest ns)) (λ m h. omega (arith, h)) ns (All-greatest ns))

pub All-put_row : (P : Row → Type 0) (row : Row) (xs : List Row) → P row → All P xs → All P (put_row row xs)
All-put_row P row [] p all = All-cons P row [] p all
All-put_row P row (x ∷ xs) p all = elim (cases_Bool (comes_before row x)) [
  | inl w ↦ rw w (All-cons P row (x ∷ xs) p all)
  | inr w ↦ rw w (All-cons P x (put_row row xs) (All-head P x xs all) (All-put_row P row xs p (All-tail P x xs all)))
]

pub All-in_order : (P : Row → Type 0) (xs : List Row) → All P xs → All P (in_order xs)
All-in_order P [] all = all
All-in_order P (x ∷ xs) all = All-put_row P x (in_order xs) (All-head P x xs all) (All-in_order P xs (All-tail P x xs all))
