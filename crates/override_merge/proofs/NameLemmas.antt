-- Names in order: a binary search in a rising list decides whether it has a number, and a start is named where its value or its day is there.
use Rattle.std.proofs.Common.{◌≡◌, ℕ, ◌+◌, ◌≤◌, List, [], ◌∷◌, length, get_or, refl, sym, ap, ◌∙◌, arith, Bool, true, false, ℤ, ◌<ℤ◌, inl, inr, Less, Equal, Greater, nat_lt, Result, Ok, Err}
use Rattle.std.specs.Prelude.{AllPairs, Contains, is_ok, ◌||◌, ◌++◌, filter, Option, Some, None}
use Rattle.std.specs.Ordering.{int_cmp, ordering_index}
use Rattle.std.specs.List.{list_any}
use Rattle.std.specs.List.Sorted.{IsSearchInRange, IsBinarySearchResult, IsPartitionPoint, IsNonDecreasingBy}
use Rattle.std.proofs.lemmas.Int.{ints}
use Rattle.std.proofs.lemmas.List.{append_assoc}
use Rattle.std.proofs.lemmas.Bool.{cases_Bool, ltb-true, ltb-false}
use Rattle.cal_model.specs.Words.Integers.{same_int}
use Rattle.cal_model.proofs.Words.IntegerLemmas.{same_int-self, same_int-true}
use Rattle.cal_model.specs.Recurrence.RecurrenceSet.{Reading}
use Rattle.cal_model.specs.Instances.Alignment.{Aligned, at, on_day, align, names_start, midnight_of, reading_of}
use Rattle.cal_model.specs.Instances.Starts.{ascending}
use Rattle.cal_model.specs.Instances.Rows.{numbered_from, has_id, named_by, is_named}
use Rattle.cal_model.specs.declared.object.Component.{Component}
use Rattle.cal_model.specs.declared.object.Object.{Object}
use Rattle.cal_model.specs.declared.zone.ZoneTable.{ZoneTable}
use Rattle.cal_moment.specs.declared.stamp.Stamp.{Stamp}
use Rattle.override_merge.specs.declared.names.Names.{Names}
use Rattle.override_merge.specs.NamedStarts.{values_in, days_in, has_name, IsNamesOf, named_beside}
use Rattle.cal_model.proofs.Instances.RisingLists.{IsBelow, Contains-there, Contains-split, ascending-has, ascending-only}

-- some number of a list is this one
pub any_of_member : (xs : List ℤ) (x : ℤ) → Contains xs x → list_any (same_int x) xs ≡ true
any_of_member [] x c = let below = c.1 in absurd (omega (arith, below))
any_of_member (y ∷ ys) x c = elim (cases_Bool (same_int x y)) [
  | inl w ↦ rw w refl
  | inr w ↦ rw w (elim (Contains-split y x ys c) [
    | inl e ↦ absurd (let self : same_int x y ≡ true = rw e (same_int-self x) in cc)
    | inr b ↦ any_of_member ys x b
  ])
]

pub none_of_list : (xs : List ℤ) (x : ℤ) → (Contains xs x → ⊥) → list_any (same_int x) xs ≡ false
none_of_list [] x absent = refl
none_of_list (y ∷ ys) x absent = elim (cases_Bool (same_int x y)) [
  | inl w ↦ absurd (absent (0, omega arith, sym (same_int-true x y w)))
  | inr w ↦ rw w (none_of_list ys x (λ c. absent (Contains-there y x ys c)))
]

equal_numbers : (x y : ℤ) → int_cmp y x ≡ Equal → y ≡ x
equal_numbers x y h = grind (arith, ints, h)

-- the order beside a number doesn't fall along a rising list
index_up : (x a b : ℤ) → a <ℤ b → ordering_index (int_cmp a x) ≤ ordering_index (int_cmp b x)
index_up x a b lt = grind (arith, ints, lt)

rising_index : (x : ℤ) (xs : List ℤ) → AllPairs IsBelow xs → IsNonDecreasingBy (λ y. ordering_index (int_cmp y x)) xs
rising_index x xs up i j d le below = elim (cases_Bool (nat_lt i j)) [
  | inl w ↦ index_up x (get_or xs i d) (get_or xs j d) (up i j d (ltb-true _ _ w) below)
  | inr w ↦ (let ge = ltb-false _ _ w in let same : i ≡ j = omega (arith, ge, le) in rw same (omega arith))
]

less_apart : (x y : ℤ) → int_cmp y x ≡ Less → y ≡ x → ⊥
less_apart x y h e = let lt : y <ℤ x = grind (arith, ints, h) in omega (arith, ints, lt, e)

greater_apart : (x y : ℤ) → int_cmp y x ≡ Greater → y ≡ x → ⊥
greater_apart x y h e = let gt : x <ℤ y = grind (arith, ints, h) in omega (arith, ints, gt, e)

pub searched_any : (xs : List ℤ) (x : ℤ) (r : Result ℕ ℕ) → AllPairs IsBelow xs → IsSearchInRange r (length xs) → IsBinarySearchResult (λ y. int_cmp y x) xs r → is_ok r ≡ list_any (same_int x) xs
searched_any xs x (Ok i) up bound found = sym (any_of_member xs x (i, bound, equal_numbers x (get_or xs i x) (found x)))
searched_any xs x (Err i) up bound found = sym (none_of_list xs x absent)
  where
    parts : IsPartitionPoint (λ y. int_cmp y x ≡ Less) (λ y. int_cmp y x ≡ Greater) xs i
    parts = found (rising_index x xs up)

    absent : Contains xs x → ⊥
    absent c = elim (cases_Bool (nat_lt c.0 i)) [
      | inl w ↦ less_apart x (get_or xs c.0 x) (parts.0 c.0 x (omega arith) (ltb-true _ _ w)) c.2
      | inr w ↦ greater_apart x (get_or xs c.0 x) (parts.1 c.0 x (ltb-false _ _ w) c.1) c.2
    ]

-- What stamps name: values and local days.

same_int-sym : (a b : ℤ) → same_int a b ≡ same_int b a
same_int-sym a b = elim (cases_Bool (same_int a b)) [
  | inl w ↦ (let e = same_int-true a b w in rw e refl)
  | inr w ↦ elim (cases_Bool (same_int b a)) [
    | inl v ↦ (let e = same_int-true b a v in rw e refl)
    | inr v ↦ w ∙ sym v
  ]
]

-- a start is named where its value is among the values, or its local day among the days
pub names_any : (reading : Reading) (r : ℤ) (names : List Aligned) →
    list_any (names_start reading r) names ≡ (list_any (same_int r) (values_in names) || list_any (same_int (midnight_of (reading.local r))) (days_in names))
names_any reading r [] = refl
names_any reading r (at v ∷ names) =
    let rest = names_any reading r names in
    let turned = same_int-sym v r in
    rw turned (elim (cases_Bool (same_int r v)) [
      | inl w ↦ rw w refl
      | inr w ↦ rw w rest
    ])
names_any reading r (on_day midnight ∷ names) =
    let rest = names_any reading r names in
    let turned = same_int-sym midnight (midnight_of (reading.local r)) in
    elim (cases_Bool (same_int (midnight_of (reading.local r)) midnight)) [
      | inl w ↦ (let there = turned ∙ w in rw (there, w) (or_true (list_any (same_int r) (values_in names))))
      | inr w ↦ (let not_there = turned ∙ w in rw (not_there, w) rest)
    ]
  where
    or_true : (b : Bool) → true ≡ (b || true)
    or_true true = refl
    or_true false = refl

-- a list in rising order has the same numbers
pub any_ascending : (x : ℤ) (xs : List ℤ) → list_any (same_int x) (ascending xs) ≡ list_any (same_int x) xs
any_ascending x xs = elim (cases_Bool (list_any (same_int x) xs)) [
  | inl w ↦ any_of_member (ascending xs) x (ascending-has x xs (member_of_any xs x w)) ∙ sym w
  | inr w ↦ none_of_list (ascending xs) x (λ c. let there = any_of_member xs x (ascending-only x xs c) in absurd cc) ∙ sym w
]
  where
    member_of_any : (xs : List ℤ) (x : ℤ) → list_any (same_int x) xs ≡ true → Contains xs x
    member_of_any [] x h = absurd cc
    member_of_any (y ∷ ys) x h = elim (cases_Bool (same_int x y)) [
      | inl w ↦ (0, omega arith, sym (same_int-true x y w))
      | inr w ↦ Contains-there y x ys (member_of_any ys x (rw w at h))
    ]

values_in-append : (xs ys : List Aligned) → values_in (xs ++ ys) ≡ values_in xs ++ values_in ys
values_in-append [] ys = refl
values_in-append (at v ∷ xs) ys = ap (λ rest. v ∷ rest) (values_in-append xs ys)
values_in-append (on_day m ∷ xs) ys = values_in-append xs ys

days_in-append : (xs ys : List Aligned) → days_in (xs ++ ys) ≡ days_in xs ++ days_in ys
days_in-append [] ys = refl
days_in-append (at v ∷ xs) ys = days_in-append xs ys
days_in-append (on_day m ∷ xs) ys = ap (λ rest. m ∷ rest) (days_in-append xs ys)

-- more names behind those that are done
pub values_more : (done : List ℤ) (xs ys : List Aligned) → (done ++ values_in xs) ++ values_in ys ≡ done ++ values_in (xs ++ ys)
values_more done xs ys = append_assoc done (values_in xs) (values_in ys) ∙ ap (λ more. done ++ more) (sym (values_in-append xs ys))

pub days_more : (done : List ℤ) (xs ys : List Aligned) → (done ++ days_in xs) ++ days_in ys ≡ done ++ days_in (xs ++ ys)
days_more done xs ys = append_assoc done (days_in xs) (days_in ys) ∙ ap (λ more. done ++ more) (sym (days_in-append xs ys))

-- names in order decide which starts are named
pub has_name-is : (reading : Reading) (r : ℤ) (named : List Aligned) (names : Names) → IsNamesOf named names → has_name reading r names ≡ list_any (names_start reading r) named
has_name-is reading r named names is =
    rw (is.values, is.days, any_ascending r (values_in named), any_ascending (midnight_of (reading.local r)) (days_in named)) (sym (names_any reading r named))

-- What the overrides of an object name is what the RECURRENCE-IDs of its components say.

module _ (zones : List ZoneTable) (ids : Stamp) (test : Aligned → Bool) where
  one_more : (n : ℕ) (c : Component) (cs : List Component) (id : Option Stamp) → c.recurrence_id ≡ id →
      list_any (λ m. list_any test (named_by zones ids m)) (filter has_id (numbered_from (n + 1) cs)) ≡ list_any test (named_beside zones ids cs) →
      list_any (λ m. list_any test (named_by zones ids m)) (filter has_id (numbered_from n (c ∷ cs))) ≡ list_any test (named_beside zones ids (c ∷ cs))
  one_more n c cs None e rest = rw e rest
  one_more n c cs (Some x) e rest = rw e (elim (cases_Bool (test (align zones x ids))) [
    | inl w ↦ rw w refl
    | inr w ↦ rw w rest
  ])

  named_from : (n : ℕ) (cs : List Component) → list_any (λ m. list_any test (named_by zones ids m)) (filter has_id (numbered_from n cs)) ≡ list_any test (named_beside zones ids cs)
  named_from n [] = refl
  named_from n (c ∷ cs) = one_more n c cs c.recurrence_id refl (named_from (n + 1) cs)

pub is_named-names : (object : Object) (ids : Stamp) (r : ℤ) → is_named object ids r ≡ list_any (names_start (reading_of object.zones ids) r) (named_beside object.zones ids object.components)
is_named-names object ids r = named_from object.zones ids (names_start (reading_of object.zones ids) r) 0 object.components
