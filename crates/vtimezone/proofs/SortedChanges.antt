-- A table doesn't depend on how changes of different moments stand among one another: two lists with the same changes at each moment, in the same order there, make one table. So a sort that keeps the order of equals may come first.
use Rattle.std.proofs.Common.{◌≡◌, List, [], ◌∷◌, ◌++◌, refl, sym, ap, ◌∙◌, arith, true, false, ℤ, ◌<ℤ◌, inl, inr}
use Rattle.std.specs.Prelude.{int_lt, if◌then◌else◌, filter, fold, Option, Some, None}
use Rattle.std.proofs.lemmas.Int.{ints, by_lt_z}
use Rattle.std.proofs.lemmas.Bool.{cases_Bool}
use Rattle.cal_model.specs.Words.Integers.{same_int}
use Rattle.cal_model.specs.TimeZones.ZoneOnsets.{Change, put_change}
use Rattle.cal_model.proofs.Words.IntegerLemmas.{same_int-true, same_int-self}
use Rattle.cal_model.proofs.TimeZones.ZoneTableLaws.{AllAfter, AreInOrder, AllAfter-earlier, AreInOrder-put_change, AreInOrder-fold}

-- the last change at a moment, or another
unfoldable pub last_at : ℤ → Option Change → List Change → Option Change
last_at z best [] = best
last_at z best (c ∷ cs) = last_at z (if same_int c.at z then Some c else best) cs

-- the changes at a moment
abbrev pub changes_at : ℤ → List Change → List Change
changes_at z cs = filter (λ (c : Change). same_int c.at z) cs

at_moment : (z : ℤ) (best : Option Change) (c : Change) (cs : List Change) → same_int c.at z ≡ true → last_at z best (c ∷ cs) ≡ last_at z (Some c) cs
unfolding last_at
at_moment z best c cs here = rw here refl

elsewhere : (z : ℤ) (best : Option Change) (c : Change) (cs : List Change) → same_int c.at z ≡ false → last_at z best (c ∷ cs) ≡ last_at z best cs
unfolding last_at
elsewhere z best c cs other = rw other refl

last_at-changes_at : (z : ℤ) (best : Option Change) (cs : List Change) → last_at z best cs ≡ last_at z best (changes_at z cs)
unfolding last_at
last_at-changes_at z best [] = refl
last_at-changes_at z best (c ∷ cs) = elim (cases_Bool (same_int c.at z)) [
  | inl here ↦ rw here (last_at-changes_at z (Some c) cs ∙ sym (at_moment z best c (changes_at z cs) here))
  | inr other ↦ rw other (last_at-changes_at z best cs)
]

last_at-AllAfter : (z : ℤ) (best : Option Change) (cs : List Change) → AllAfter z cs → last_at z best cs ≡ best
unfolding last_at AllAfter
last_at-AllAfter z best [] h = refl
last_at-AllAfter z best (c ∷ cs) h = elim (cases_Bool (same_int c.at z)) [
  | inl here ↦ absurd (let e = same_int-true c.at z here in let lt = h.0 in omega (arith, ints, e, lt))
  | inr other ↦ rw other (last_at-AllAfter z best cs h.1)
]

last_at-first : (c : Change) (cs : List Change) → AllAfter c.at cs → last_at c.at None (c ∷ cs) ≡ Some c
unfolding last_at
last_at-first c cs h = let here = same_int-self c.at in rw here (last_at-AllAfter c.at (Some c) cs h)

-- a change that is put among those in order holds at its moment
last_at-put_change : (z : ℤ) (best : Option Change) (cs : List Change) (c : Change) → AreInOrder cs → last_at z best (put_change cs c) ≡ (if same_int c.at z then Some c else last_at z best cs)
unfolding last_at AllAfter AreInOrder
last_at-put_change z best [] c h = refl
last_at-put_change z best (x ∷ xs) c h = elim (cases_Bool (int_lt c.at x.at)) [
  | inl before ↦ elim (cases_Bool (same_int c.at z)) [
    | inl here ↦ (let e = same_int-true c.at z here in
        let lt : c.at <ℤ x.at = grind (arith, ints, before) in
        let after : z <ℤ x.at = omega (arith, ints, e, lt) in
        let held = last_at-AllAfter z (Some c) (x ∷ xs) (after, AllAfter-earlier z x.at xs after h.0) in
        rw (before, here) (at_moment z best c (x ∷ xs) here ∙ held))
    | inr other ↦ rw (before, other) (elsewhere z best c (x ∷ xs) other)
  ]
  | inr from ↦ elim (cases_Bool (same_int c.at x.at)) [
    | inl same ↦ (let e = same_int-true c.at x.at same in elim (cases_Bool (same_int c.at z)) [
      | inl here ↦ (let at = same_int-true c.at z here in
          let there : x.at ≡ z = sym e ∙ at in
          rw (from, same, here) (at_moment z best c xs here ∙ last_at-AllAfter z (Some c) xs (rw there at h.0)))
      | inr other ↦ (let there : same_int x.at z ≡ false = rw e at other in rw (from, same, other) (elsewhere z best c xs other ∙ sym (elsewhere z best x xs there)))
    ])
    | inr other ↦ rw (from, other) (last_at-put_change z (if same_int x.at z then Some x else best) xs c h.1)
  ]
]

last_at-fold : (z : ℤ) (cs more : List Change) → AreInOrder cs → last_at z None (fold put_change cs more) ≡ last_at z (last_at z None cs) more
unfolding last_at
last_at-fold z cs [] h = refl
last_at-fold z cs (c ∷ more) h =
    last_at-fold z (put_change cs c) more (AreInOrder-put_change cs c h) ∙ ap (λ best. last_at z best more) (last_at-put_change z None cs c h)

-- two lists in order that have the same change at each moment are equal
pub AreInOrder-last_at : (xs ys : List Change) → AreInOrder xs → AreInOrder ys → ((z : ℤ) → last_at z None xs ≡ last_at z None ys) → xs ≡ ys
unfolding last_at AllAfter AreInOrder
AreInOrder-last_at [] [] h k same = refl
AreInOrder-last_at [] (y ∷ ys) h k same = absurd (let e : None ≡ Some y = same y.at ∙ last_at-first y ys k.0 in cc)
AreInOrder-last_at (x ∷ xs) [] h k same = absurd (let e : Some x ≡ None = sym (last_at-first x xs h.0) ∙ same x.at in cc)
AreInOrder-last_at (x ∷ xs) (y ∷ ys) h k same =
    by_lt_z x.at y.at
    (λ lt. absurd (let e : Some x ≡ None = sym (last_at-first x xs h.0) ∙ (same x.at ∙ last_at-AllAfter x.at None (y ∷ ys) (lt, AllAfter-earlier x.at y.at ys lt k.0)) in cc))
    (λ ge. by_lt_z y.at x.at
    (λ lt. absurd (let e : Some y ≡ None = sym (last_at-first y ys k.0) ∙ (sym (same y.at) ∙ last_at-AllAfter y.at None (x ∷ xs) (lt, AllAfter-earlier y.at x.at xs lt h.0)) in cc))
    (λ le. let at : x.at ≡ y.at = omega (arith, ints, ge, le) in
    let e : Some x ≡ Some y = sym (last_at-first x xs h.0) ∙ (same x.at ∙ (ap (λ z. last_at z None (y ∷ ys)) at ∙ last_at-first y ys k.0)) in
    let is : x ≡ y = cc in
    ap (λ c. c ∷ xs) is ∙ ap (λ cs. y ∷ cs) (AreInOrder-last_at xs ys h.1 k.1 (λ z. elim (cases_Bool (same_int x.at z)) [
      | inl here ↦ (let there = same_int-true x.at z here in
          last_at-AllAfter z None xs (rw there at h.0) ∙ sym (last_at-AllAfter z None ys (rw (sym at ∙ there) at k.0)))
      | inr other ↦ (let over : same_int y.at z ≡ false = rw at at other in
          let rest = same z in rw (other, over) at rest)
    ]))))

-- the changes of each moment decide the table
pub fold-changes_at : (xs ys : List Change) → ((z : ℤ) → changes_at z xs ≡ changes_at z ys) → fold put_change [] xs ≡ fold put_change [] ys
unfolding AreInOrder last_at
fold-changes_at xs ys same =
    AreInOrder-last_at (fold put_change [] xs) (fold put_change [] ys) (AreInOrder-fold [] xs tt) (AreInOrder-fold [] ys tt)
    (λ z. last_at-fold z [] xs tt ∙ (last_at-changes_at z None xs ∙ (ap (last_at z None) (same z) ∙ (sym (last_at-changes_at z None ys) ∙ sym (last_at-fold z [] ys tt)))))

-- A change that comes last.

last_after : (z : ℤ) (xs : List Change) (x : Change) → AllAfter z (xs ++ x ∷ []) → z <ℤ x.at
unfolding AllAfter
last_after z [] x h = h.0
last_after z (y ∷ ys) x h = last_after z ys x h.1

later_false : (a b : ℤ) → a <ℤ b → (int_lt b a ≡ false) × (same_int b a ≡ false)
later_false a b lt = (
  grind (arith, ints, lt),
  elim (cases_Bool (same_int b a)) [
    | inl same ↦ absurd (let e = same_int-true b a same in omega (arith, ints, e, lt))
    | inr other ↦ other
  ],
)

-- after a list in order it stands behind it
pub put_change-later : (xs : List Change) (x c : Change) → AreInOrder (xs ++ x ∷ []) → x.at <ℤ c.at → put_change (xs ++ x ∷ []) c ≡ (xs ++ x ∷ []) ++ c ∷ []
unfolding AreInOrder AllAfter
put_change-later [] x c h lt = let tests = later_false x.at c.at lt in let from = tests.0 in let other = tests.1 in rw (from, other) refl
put_change-later (y ∷ ys) x c h lt =
    let below = last_after y.at ys x h.0 in
    let tests = later_false y.at c.at (omega (arith, ints, below, lt)) in
    let from = tests.0 in let other = tests.1 in
    rw (from, other) (ap (λ cs. y ∷ cs) (put_change-later ys x c h.1 lt))

-- at the moment of the last it takes its place
pub put_change-same : (xs : List Change) (x c : Change) → AreInOrder (xs ++ x ∷ []) → x.at ≡ c.at → put_change (xs ++ x ∷ []) c ≡ xs ++ c ∷ []
unfolding AreInOrder AllAfter
put_change-same [] x c h e =
    let from : int_lt c.at x.at ≡ false = grind (arith, ints, e) in
    let same : same_int c.at x.at ≡ true = rw e (same_int-self c.at) in
    rw (from, same) refl
put_change-same (y ∷ ys) x c h e =
    let below = last_after y.at ys x h.0 in
    let tests = later_false y.at c.at (omega (arith, ints, below, e)) in
    let from = tests.0 in let other = tests.1 in
    rw (from, other) (ap (λ cs. y ∷ cs) (put_change-same ys x c h.1 e))
