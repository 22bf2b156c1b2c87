-- Days of a year that a table marks.
use Rattle.std.proofs.Common.{◌≡◌, ℕ, zero, suc, ◌<◌, refl, ap, ◌∙◌, arith, Bool, true, false, ◌==◌, inl, inr, List, length, replicate, slice_index_or}
use Rattle.std.specs.Prelude.{if◌then◌else◌, slice_set}
use Rattle.std.proofs.lemmas.Bool.{cases_Bool, cases_lt, eqb-true, eq-eqb}
use Rattle.std.proofs.lemmas.List.{get_or-replicate, get_or_past, get_or-set_same, get_or-set_other}

-- a table of no day
pub none_marked : (i : ℕ) → slice_index_or (replicate 366 false) i false ≡ false
none_marked i =
    elim (cases_lt i 366) [
      | inl below ↦ get_or-replicate 366 i false false below
      | inr above ↦ get_or_past (replicate 366 false) i false (omega (arith, above, length-replicate 366))
    ]
  where
    length-replicate : (room : ℕ) → length (replicate {A = Bool} room false) ≡ room
    length-replicate zero = refl
    length-replicate (suc room) = ap suc (length-replicate room)

-- and of one day more
pub one_marked : (table : List Bool) (place i : ℕ) (named : Bool) → place < length table → named ≡ (i == place) →
    slice_index_or (slice_set table place true) i false ≡ (if named then true else slice_index_or table i false)
one_marked table place i named within is = elim (cases_Bool (i == place)) [
  | inl w ↦ (let same = eqb-true i place w in let yes : named ≡ true = is ∙ w in
      rw yes (ap (λ p. slice_index_or (slice_set table place true) p false) same ∙ get_or-set_same table place true false within))
  | inr w ↦ (let no : named ≡ false = is ∙ w in
      rw no (get_or-set_other table place i true false (λ e. let bad : (i == place) ≡ true = eq-eqb i place e in absurd cc)))
]
