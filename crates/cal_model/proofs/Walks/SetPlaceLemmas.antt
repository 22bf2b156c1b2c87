-- The numbers of BYSETPOS in tables.
use Rattle.std.proofs.Common.{◌≡◌, ℕ, zero, suc, ◌+◌, ◌-◌, ◌<◌, ◌≤◌, refl, sym, ap, ◌∙◌, arith, Bool, true, false, ◌||◌, ◌==◌, inl, inr, List, [], ◌∷◌, length, replicate, slice_index_or, ℤ, pos, negsuc}
use Rattle.std.specs.List.{list_any}
use Rattle.std.proofs.lemmas.Bool.{cases_Bool, cases_lt, eqb-true, eq-eqb}
use Rattle.std.proofs.lemmas.List.{get_or-replicate, get_or_past}
use Rattle.cal_model.specs.declared.walk.set_places.SetPlaces.{SetPlaces}
use Rattle.cal_model.specs.Words.Integers.{names_place, some_names_place}
use Rattle.cal_model.specs.Walks.SetPlaces.{AreSetPlaces, is_back, is_front}

-- a table of no number marks none
pub none_marked : (n : ℕ) → slice_index_or (replicate 367 false) n false ≡ false
none_marked n =
    elim (cases_lt n 367) [
      | inl below ↦ get_or-replicate 367 n false false below
      | inr above ↦ get_or_past (replicate 367 false) n false (omega (arith, above, length-replicate 367))
    ]
  where
    length-replicate : (room : ℕ) → length (replicate {A = Bool} room false) ≡ room
    length-replicate zero = refl
    length-replicate (suc room) = ap suc (length-replicate room)

or_none : (b : Bool) → b ≡ (b || false)
or_none true = refl
or_none false = refl

or_other : (a b : Bool) → (a || b) ≡ (b || a)
or_other true true = refl
or_other true false = refl
or_other false true = refl
or_other false false = refl

-- a number that is marked before the others is one of those behind them
pub marked_more : (one had all : Bool) → had ≡ all → (one || had) ≡ (all || one)
marked_more one had all is = ap (λ b. one || b) is ∙ or_other one all

mixed : (a b c d : Bool) → ((a || b) || (c || d)) ≡ ((a || c) || (b || d))
mixed true b c d = refl
mixed false true true d = refl
mixed false true false d = refl
mixed false false c d = refl

from_end : (place size k : ℕ) → place ≤ size → (place + k == size) ≡ (k == size - place)
from_end place size k within = elim (cases_Bool (k == size - place)) [
  | inl w ↦ (let is = eqb-true _ _ w in eq-eqb (place + k) size (omega (arith, is, within)) ∙ sym w)
  | inr w ↦ (let no : (place + k == size) ≡ false = elim (cases_Bool (place + k == size)) [
    | inl v ↦ absurd (let is = eqb-true _ _ v in let bad : (k == size - place) ≡ true = eq-eqb k (size - place) (omega (arith, is)) in cc)
    | inr v ↦ v
  ] in no ∙ sym w)
]

one_named : (place size : ℕ) (n : ℤ) → place ≤ size → names_place place size n ≡ (is_front place n || is_back (size - place) n)
one_named place size (pos k) within = or_none (k == place)
one_named place size (negsuc k) within = from_end place size k within

some_named : (place size : ℕ) (numbers : List ℤ) → place ≤ size → some_names_place numbers place size ≡ (list_any (is_front place) numbers || list_any (is_back (size - place)) numbers)
some_named place size [] within = refl
some_named place size (n ∷ ns) within =
    ap (λ b. b || some_names_place ns place size) (one_named place size n within)
    ∙ (ap (λ b. (is_front place n || is_back (size - place) n) || b) (some_named place size ns within)
    ∙ mixed (is_front place n) (is_back (size - place) n) (list_any (is_front place) ns) (list_any (is_back (size - place)) ns))

-- the tables name the places that the numbers do
pub named_by_tables : (numbers : List ℤ) (places : SetPlaces) → AreSetPlaces numbers places → (place size : ℕ) → place ≤ size →
    (slice_index_or places.front place false || slice_index_or places.back (size - place) false) ≡ some_names_place numbers place size
named_by_tables numbers places are place size within =
    ap (λ b. b || slice_index_or places.back (size - place) false) (are.front place)
    ∙ (ap (λ b. list_any (is_front place) numbers || b) (are.back (size - place)) ∙ sym (some_named place size numbers within))
