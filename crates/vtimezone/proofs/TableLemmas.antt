-- From changes as they stand in the text to those of a table: a stable sort, and of each moment the last.
use Rattle.std.proofs.Common.{◌≡◌, ℕ, suc, ◌+◌, List, [], ◌∷◌, ◌++◌, get_or, refl, sym, ap, subst, ◌∙◌, arith, true, false, ℤ, pos, ◌<ℤ◌, ◌≤ℤ◌, inl, inr}
use Rattle.std.specs.Prelude.{int_lt, if◌then◌else◌, filter, fold, not, ◌&&◌}
use Rattle.std.specs.Ordering.{int_cmp, is_lt}
use Rattle.std.specs.List.Sorted.{IsSortedByKey, IsStableByKey, ties}
use Rattle.std.proofs.lemmas.Int.{ints, by_lt_z}
use Rattle.std.proofs.lemmas.Bool.{cases_Bool}
use Rattle.cal_model.specs.Words.Integers.{same_int}
use Rattle.cal_model.specs.TimeZones.ZoneOnsets as zone
use Rattle.cal_model.proofs.Words.IntegerLemmas.{same_int-true, same_int-self}
use Rattle.cal_model.proofs.TimeZones.ZoneTableLaws.{AllAfter, AreInOrder, AreInOrder-put_change}
use Rattle.vtimezone.specs.declared.change.Change.{Change}
use Rattle.vtimezone.specs.Gathered.{as_change, changes_of}
use Rattle.vtimezone.proofs.SortedChanges.{changes_at, fold-changes_at, put_change-later, put_change-same}

-- A stable sort.

is_lt-int_cmp : (a b : ℤ) → is_lt (int_cmp a b) ≡ int_lt a b
is_lt-int_cmp a b = elim (cases_Bool (int_lt a b)) [
  | inl lt ↦ rw lt refl
  | inr ge ↦ elim (cases_Bool (int_lt b a)) [
    | inl gt ↦ rw (ge, gt) refl
    | inr le ↦ rw (ge, le) refl
  ]
]

-- neither is less than the other where both are one number
ties-same_int : (z a : ℤ) → (not (is_lt (int_cmp z a)) && not (is_lt (int_cmp a z))) ≡ same_int a z
ties-same_int z a =
    rw (is_lt-int_cmp z a, is_lt-int_cmp a z)
    (elim (cases_Bool (same_int a z)) [
      | inl same ↦ (let e = same_int-true a z same in
          let one : int_lt z a ≡ false = grind (arith, ints, e) in
          let two : int_lt a z ≡ false = grind (arith, ints, e) in
          rw (one, two, same) refl)
      | inr other ↦ by_lt_z z a
          (λ lt. let one : int_lt z a ≡ true = grind (arith, ints, lt) in rw (one, other) refl)
          (λ ge. by_lt_z a z
          (λ lt. let two : int_lt a z ≡ true = grind (arith, ints, lt) in
          let one : int_lt z a ≡ false = grind (arith, ints, lt) in rw (one, two, other) refl)
          (λ le. let e : a ≡ z = omega (arith, ints, ge, le) in
          let same : same_int a z ≡ true = rw e (same_int-self z) in
          let clash : true ≡ false = sym same ∙ other in absurd cc))
    ])

-- those that tie with a change at a moment are the changes at it
changes_at-ties : (z : ℤ) (cs : List Change) →
    changes_at z (changes_of cs) ≡ changes_of (filter (ties (λ (x y : Change). is_lt (int_cmp x.at y.at)) (record { at = z; from = pos 0; to = pos 0 })) cs)
changes_at-ties z [] = refl
changes_at-ties z (c ∷ cs) =
    rw (ties-same_int z c.at)
    (elim (cases_Bool (same_int c.at z)) [
      | inl here ↦ rw here (ap (λ xs. as_change c ∷ xs) (changes_at-ties z cs))
      | inr other ↦ rw other (changes_at-ties z cs)
    ])

-- a stable sort leaves the table as it is
pub fold-stable : (xs ys : List Change) → IsStableByKey (λ (c : Change). c.at) int_cmp xs ys →
    fold zone.put_change [] (changes_of ys) ≡ fold zone.put_change [] (changes_of xs)
fold-stable xs ys stable =
    fold-changes_at (changes_of ys) (changes_of xs)
    (λ z. changes_at-ties z ys ∙ (ap changes_of (stable (record { at = z; from = pos 0; to = pos 0 })) ∙ sym (changes_at-ties z xs)))

-- Of each moment the last.

pub IsSorted-tail : (x : Change) (xs : List Change) → IsSortedByKey (λ (c : Change). c.at) int_cmp (x ∷ xs) → IsSortedByKey (λ (c : Change). c.at) int_cmp xs
IsSorted-tail x xs h = λ k d low lt.
    subst (λ n. is_lt (int_cmp (get_or (x ∷ xs) n d).at (get_or xs k d).at) ≡ false) (next k) (h (suc k) d (omega arith) (omega (arith, lt)))
  where
    next : (k : ℕ) → suc k + 1 ≡ suc (k + 1)
    next k = omega arith

first_two : (x y : Change) (xs : List Change) → IsSortedByKey (λ (c : Change). c.at) int_cmp (x ∷ y ∷ xs) → x.at ≤ℤ y.at
first_two x y xs h =
    let test : is_lt (int_cmp y.at x.at) ≡ false = h 0 x (omega arith) (omega arith) in
    let ge : int_lt y.at x.at ≡ false = sym (is_lt-int_cmp y.at x.at) ∙ test in
    grind (arith, ints, ge)

-- the next change stands behind what is kept, or in the place of the last
put_change-kept : (old new : List zone.Change) (x c : zone.Change) → AreInOrder (old ++ x ∷ []) → x.at ≤ℤ c.at →
    new ≡ (if same_int c.at x.at then old else old ++ x ∷ []) → zone.put_change (old ++ x ∷ []) c ≡ new ++ c ∷ []
put_change-kept old new x c order le is = elim (cases_Bool (same_int c.at x.at)) [
  | inl same ↦ (let e = same_int-true c.at x.at same in
      let kept : new ≡ old = rw same at is in
      put_change-same old x c order (sym e) ∙ ap (λ cs. cs ++ c ∷ []) (sym kept))
  | inr other ↦ (let lt = later other in
      let kept : new ≡ old ++ x ∷ [] = rw other at is in
      put_change-later old x c order lt ∙ ap (λ cs. cs ++ c ∷ []) (sym kept))
]
  where
    later : same_int c.at x.at ≡ false → x.at <ℤ c.at
    later other =
        by_lt_z x.at c.at
        (λ lt. lt)
        (λ ge. let e : c.at ≡ x.at = omega (arith, ints, le, ge) in
        let same : same_int c.at x.at ≡ true = rw e (same_int-self x.at) in
        let clash : true ≡ false = sym same ∙ other in absurd cc)

-- one step of the walk over changes that are sorted
pub record IsKept (kept : List zone.Change) (last : Change) (rest : List Change) (whole : List zone.Change) : Type 0 where
  pub order : AreInOrder (kept ++ as_change last ∷ [])
  pub sorted : IsSortedByKey (λ (c : Change). c.at) int_cmp (last ∷ rest)
  pub all : fold zone.put_change (kept ++ as_change last ∷ []) (changes_of rest) ≡ whole

pub IsKept-next : (old new : List zone.Change) (last next : Change) (rest behind : List Change) (whole : List zone.Change) →
    IsKept old last rest whole → rest ≡ next ∷ behind → new ≡ (if same_int next.at last.at then old else old ++ as_change last ∷ []) → IsKept new next behind whole
IsKept-next old new last next rest behind whole h e is =
    let sorted : IsSortedByKey (λ (c : Change). c.at) int_cmp (last ∷ next ∷ behind) = subst (λ cs. IsSortedByKey (λ (c : Change). c.at) int_cmp (last ∷ cs)) e h.sorted in
    let all : fold zone.put_change (old ++ as_change last ∷ []) (changes_of (next ∷ behind)) ≡ whole = subst (λ cs. fold zone.put_change (old ++ as_change last ∷ []) (changes_of cs) ≡ whole) e h.all in
    let put : zone.put_change (old ++ as_change last ∷ []) (as_change next) ≡ new ++ as_change next ∷ [] = put_change-kept old new (as_change last) (as_change next) h.order (first_two last next behind sorted) is in
    record {
      order = subst AreInOrder put (AreInOrder-put_change (old ++ as_change last ∷ []) (as_change next) h.order);
      sorted = IsSorted-tail last (next ∷ behind) sorted;
      all = ap (λ cs. fold zone.put_change cs (changes_of behind)) (sym put) ∙ all;
    }

alone : (c : zone.Change) → AreInOrder (c ∷ [])
unfolding AreInOrder AllAfter
alone c = (tt, tt)

pub IsKept-first : (kept : List zone.Change) (first : Change) (sorted others : List Change) → kept ≡ [] → sorted ≡ first ∷ others →
    IsSortedByKey (λ (c : Change). c.at) int_cmp sorted → IsKept kept first others (fold zone.put_change [] (changes_of sorted))
IsKept-first kept first sorted others none e h =
    subst (λ cs. IsKept cs first others (fold zone.put_change [] (changes_of sorted))) (sym none)
    (record {
      order = alone (as_change first);
      sorted = subst (λ cs. IsSortedByKey (λ (c : Change). c.at) int_cmp cs) e h;
      all = ap (λ cs. fold zone.put_change [] (changes_of cs)) (sym e);
    })

pub IsKept-last : (kept : List zone.Change) (last : Change) (rest : List Change) (whole : List zone.Change) → IsKept kept last rest whole → rest ≡ [] → kept ++ as_change last ∷ [] ≡ whole
IsKept-last kept last rest whole h none = subst (λ cs. fold zone.put_change (kept ++ as_change last ∷ []) (changes_of cs) ≡ whole) none h.all
