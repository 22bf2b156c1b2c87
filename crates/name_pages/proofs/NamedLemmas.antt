-- Pairs in order, a stretch of which is a page: a name is looked up, put and taken out in the stretch that may have it; and what holds of all names.
use Rattle.std.proofs.Common.{◌≡◌, ℕ, refl, sym, ap, subst, ◌∙◌, List, [], ◌∷◌, ◌++◌, ◌+◌, ◌<◌, ◌≤◌, length, arith, Bool, true, false, cond, Some, None}
use Rattle.std.specs.Prelude.{slice_get}
use Rattle.std.specs.declared.cmp.Ordering.{Ordering}
use Rattle.std.specs.declared.cmp.Ordering.TheVariants.{Less, Equal, Greater}
use Rattle.std.specs.Ordering.{match_ordering, is_eq, is_lt}
use Rattle.std.specs.List.{AllByRecursion}
use Rattle.std.specs.List.Sorted.{IsStrictlySortedBy}
use Rattle.std.specs.Map.{keys_of}
use Rattle.std.specs.BTreeMap.{is_at}
use Rattle.std.proofs.lemmas.List.Elements.{filter-append, All-from_recursion, recursion_from_All}
use Rattle.std.proofs.lemmas.Map.Views.{All-keys-insert_entry, All-map-remove_entry}
use Rattle.cal_base.specs.Lists.NameMap.{Named, name_order, IsInOrder, value_at, with_value, without, above, next_above}

-- What holds of each

pub all_weaker : {X : Type 0} (P Q : X → Type 0) (xs : List X) → ((x : X) → P x → Q x) → AllByRecursion P xs → AllByRecursion Q xs
all_weaker P Q [] f all = tt
all_weaker P Q (x ∷ xs) f all = (f x all.0, all_weaker P Q xs f all.1)

pub all_two : {X : Type 0} (P Q : X → Type 0) (xs : List X) → AllByRecursion P xs → AllByRecursion Q xs → AllByRecursion (λ x. P x × Q x) xs
all_two P Q [] one other = tt
all_two P Q (x ∷ xs) one other = ((one.0, other.0), all_two P Q xs one.1 other.1)

pub all_both : {X : Type 0} (P : X → Type 0) (xs ys : List X) → AllByRecursion P xs → AllByRecursion P ys → AllByRecursion P (xs ++ ys)
all_both P [] ys front back = back
all_both P (x ∷ xs) ys front back = (front.0, all_both P xs ys front.1 back)

pub all_front : {X : Type 0} (P : X → Type 0) (xs ys : List X) → AllByRecursion P (xs ++ ys) → AllByRecursion P xs
all_front P [] ys all = tt
all_front P (x ∷ xs) ys all = (all.0, all_front P xs ys all.1)

pub all_back : {X : Type 0} (P : X → Type 0) (xs ys : List X) → AllByRecursion P (xs ++ ys) → AllByRecursion P ys
all_back P [] ys all = all
all_back P (x ∷ xs) ys all = all_back P xs ys all.1

-- each of one list to each of another, and the other way round
pub all_turned : {X Y : Type 0} (R : X → Y → Type 0) (xs : List X) (ys : List Y) → AllByRecursion (λ y. AllByRecursion (λ x. R x y) xs) ys → AllByRecursion (λ x. AllByRecursion (R x) ys) xs
all_turned R [] ys all = tt
all_turned {X} R (x ∷ xs) ys all = (
  all_weaker (λ y. AllByRecursion (λ z. R z y) (x ∷ xs)) (R x) ys (λ y each. each.0) all,
  all_turned R xs ys (all_weaker (λ y. AllByRecursion (λ z. R z y) (x ∷ xs)) (λ y. AllByRecursion (λ z. R z y) xs) ys (λ y each. each.1) all),
)

pub in_order-nil : (V : Type 0) → IsInOrder {V = V} []
unfolding IsStrictlySortedBy
in_order-nil V = tt

module _ {V : Type 0} where
  pub keys_of-append : (xs ys : Named V) → keys_of (xs ++ ys) ≡ keys_of xs ++ keys_of ys
  keys_of-append [] ys = refl
  keys_of-append (pair ∷ xs) ys = ap (λ names. pair.0 ∷ names) (keys_of-append xs ys)

  -- what holds of all names and of one more holds of all with that
  pub all_names-put : (P : List ℕ → Type 0) (named : Named V) (name : List ℕ) (value : V) → P name → AllByRecursion P (keys_of named) → AllByRecursion P (keys_of (with_value named name value))
  all_names-put P named name value here all =
      recursion_from_All P (keys_of (with_value named name value)) (All-keys-insert_entry name_order name value P named (All-from_recursion P (keys_of named) all) here)

  pub all_names-taken : (P : List ℕ → Type 0) (named : Named V) (name : List ℕ) → AllByRecursion P (keys_of named) → AllByRecursion P (keys_of (without named name))
  all_names-taken P named name all =
      recursion_from_All P (keys_of (without named name)) (All-map-remove_entry (is_at (name_order name)) (λ pair. pair.0) P named (All-from_recursion P (keys_of named) all))

  put_by : (order : Ordering) (name : List ℕ) (value : V) (pair : List ℕ × V) (named left : Named V) → length left ≤ length named + 1
      → length (match_ordering order ((name, value) ∷ pair ∷ named) ((pair.0, value) ∷ named) (pair ∷ left)) ≤ length (pair ∷ named) + 1
  put_by Less name value pair named left within = omega arith
  put_by Equal name value pair named left within = omega arith
  put_by Greater name value pair named left within = omega arith

  -- how many there are
  pub length-put : (named : Named V) (name : List ℕ) (value : V) → length (with_value named name value) ≤ length named + 1
  length-put [] name value = omega arith
  length-put (pair ∷ named) name value = put_by (name_order name pair.0) name value pair named (with_value named name value) (length-put named name value)

  some_by : (order : Ordering) (name : List ℕ) (value : V) (pair : List ℕ × V) (named left : Named V) → 0 < length (match_ordering order ((name, value) ∷ pair ∷ named) ((pair.0, value) ∷ named) (pair ∷ left))
  some_by Less name value pair named left = omega arith
  some_by Equal name value pair named left = omega arith
  some_by Greater name value pair named left = omega arith

  pub some-put : (named : Named V) (name : List ℕ) (value : V) → 0 < length (with_value named name value)
  some-put [] name value = omega arith
  some-put (pair ∷ named) name value = some_by (name_order name pair.0) name value pair named (with_value named name value)

  taken_by : (here : Bool) (pair : List ℕ × V) (named left : Named V) → length left ≤ length named → length (cond here named (pair ∷ left)) ≤ length (pair ∷ named)
  taken_by true pair named left within = omega arith
  taken_by false pair named left within = omega arith

  pub length-taken : (named : Named V) (name : List ℕ) → length (without named name) ≤ length named
  length-taken [] name = omega arith
  length-taken (pair ∷ named) name = taken_by (is_at (name_order name) pair.0) pair named (without named name) (length-taken named name)

  -- Two stretches in order, where all names of the one are below all of the other

  abbrev pub AreBelow : Named V → Named V → Type 0
  AreBelow front back = AllByRecursion (λ name. AllByRecursion (λ other. name_order name other ≡ Less) (keys_of back)) (keys_of front)

  pub in_order-joined : (front back : Named V) → IsInOrder front → IsInOrder back → AreBelow front back → IsInOrder (front ++ back)
  unfolding IsStrictlySortedBy
  in_order-joined [] back one other below = other
  in_order-joined (pair ∷ front) back one other below = (
    subst (AllByRecursion (λ name. name_order pair.0 name ≡ Less)) (sym (keys_of-append front back)) (all_both (λ name. name_order pair.0 name ≡ Less) (keys_of front) (keys_of back) one.0 below.0),
    in_order-joined front back one.1 other below.1,
  )

  pub in_order-parts : (front back : Named V) → IsInOrder (front ++ back) → IsInOrder front × IsInOrder back × AreBelow front back
  unfolding IsStrictlySortedBy
  in_order-parts [] back order = (tt, order, tt)
  in_order-parts (pair ∷ front) back order =
      let rest = in_order-parts front back order.1 in
      let here = subst (AllByRecursion (λ name. name_order pair.0 name ≡ Less)) (keys_of-append front back) order.0 in (
        (all_front (λ name. name_order pair.0 name ≡ Less) (keys_of front) (keys_of back) here, rest.0),
        rest.1,
        (all_back (λ name. name_order pair.0 name ≡ Less) (keys_of front) (keys_of back) here, rest.2),
      )

  -- a name is above all names of some pairs, or below all
  abbrev pub IsBehind : List ℕ → Named V → Type 0
  IsBehind name front = AllByRecursion (λ other. name_order name other ≡ Greater) (keys_of front)

  abbrev pub IsBefore : List ℕ → Named V → Type 0
  IsBefore name back = AllByRecursion (λ other. name_order name other ≡ Less) (keys_of back)

module _ {V : Type 0} (name : List ℕ) where
  -- Names that are passed

  pub value_at-behind : (front rest : Named V) → IsBehind name front → value_at (front ++ rest) name ≡ value_at rest name
  value_at-behind [] rest all = refl
  value_at-behind (pair ∷ front) rest all =
      ap (λ o. cond (is_eq o) (Some pair.1) (value_at (front ++ rest) name)) all.0 ∙ value_at-behind front rest all.1

  pub with_value-behind : (front rest : Named V) (value : V) → IsBehind name front → with_value (front ++ rest) name value ≡ front ++ with_value rest name value
  with_value-behind [] rest value all = refl
  with_value-behind (pair ∷ front) rest value all =
      ap (λ o. match_ordering o ((name, value) ∷ pair ∷ (front ++ rest)) ((pair.0, value) ∷ (front ++ rest)) (pair ∷ with_value (front ++ rest) name value)) all.0
      ∙ ap (λ named. pair ∷ named) (with_value-behind front rest value all.1)

  pub without-behind : (front rest : Named V) → IsBehind name front → without (front ++ rest) name ≡ front ++ without rest name
  without-behind [] rest all = refl
  without-behind (pair ∷ front) rest all =
      ap (λ o. cond (is_eq o) (front ++ rest) (pair ∷ without (front ++ rest) name)) all.0
      ∙ ap (λ named. pair ∷ named) (without-behind front rest all.1)

  -- Names that are not reached

  value_at-none : (back : Named V) → IsBefore name back → value_at back name ≡ None
  value_at-none [] all = refl
  value_at-none (pair ∷ back) all = ap (λ o. cond (is_eq o) (Some pair.1) (value_at back name)) all.0 ∙ value_at-none back all.1

  without-none : (back : Named V) → IsBefore name back → without back name ≡ back
  without-none [] all = refl
  without-none (pair ∷ back) all = ap (λ o. cond (is_eq o) back (pair ∷ without back name)) all.0 ∙ ap (λ named. pair ∷ named) (without-none back all.1)

  with_value-first : (back : Named V) (value : V) → IsBefore name back → with_value back name value ≡ (name, value) ∷ back
  with_value-first [] value all = refl
  with_value-first (pair ∷ back) value all = ap (λ o. match_ordering o ((name, value) ∷ pair ∷ back) ((pair.0, value) ∷ back) (pair ∷ with_value back name value)) all.0

  pub value_at-before : (page back : Named V) → IsBefore name back → value_at (page ++ back) name ≡ value_at page name
  value_at-before [] back all = value_at-none back all
  value_at-before (pair ∷ page) back all = ap (cond (is_at (name_order name) pair.0) (Some pair.1)) (value_at-before page back all)

  without-by : (test : Bool) (pair : List ℕ × V) (page back left : Named V) → left ≡ without page name ++ back → cond test (page ++ back) (pair ∷ left) ≡ cond test page (pair ∷ without page name) ++ back
  without-by true pair page back left is = refl
  without-by false pair page back left is = ap (λ named. pair ∷ named) is

  pub without-before : (page back : Named V) → IsBefore name back → without (page ++ back) name ≡ without page name ++ back
  without-before [] back all = without-none back all
  without-before (pair ∷ page) back all = without-by (is_at (name_order name) pair.0) pair page back (without (page ++ back) name) (without-before page back all)

  with_value-by : (order : Ordering) (pair : List ℕ × V) (page back left : Named V) (value : V) → left ≡ with_value page name value ++ back
      → match_ordering order ((name, value) ∷ pair ∷ (page ++ back)) ((pair.0, value) ∷ (page ++ back)) (pair ∷ left) ≡ match_ordering order ((name, value) ∷ pair ∷ page) ((pair.0, value) ∷ page) (pair ∷ with_value page name value) ++ back
  with_value-by Less pair page back left value is = refl
  with_value-by Equal pair page back left value is = refl
  with_value-by Greater pair page back left value is = ap (λ named. pair ∷ named) is

  pub with_value-before : (page back : Named V) (value : V) → IsBefore name back → with_value (page ++ back) name value ≡ with_value page name value ++ back
  with_value-before [] back value all = with_value-first back value all
  with_value-before (pair ∷ page) back value all = with_value-by (name_order name pair.0) pair page back (with_value (page ++ back) name value) value (with_value-before page back value all)

  -- In its page alone

  pub value_at-page : (front page back : Named V) → IsBehind name front → IsBefore name back → value_at (front ++ (page ++ back)) name ≡ value_at page name
  value_at-page front page back behind before = value_at-behind front (page ++ back) behind ∙ value_at-before page back before

  pub without-page : (front page back : Named V) → IsBehind name front → IsBefore name back → without (front ++ (page ++ back)) name ≡ front ++ (without page name ++ back)
  without-page front page back behind before = without-behind front (page ++ back) behind ∙ ap (λ named. front ++ named) (without-before page back before)

  pub with_value-page : (front page back : Named V) (value : V) → IsBehind name front → IsBefore name back → with_value (front ++ (page ++ back)) name value ≡ front ++ (with_value page name value ++ back)
  with_value-page front page back value behind before = with_value-behind front (page ++ back) value behind ∙ ap (λ named. front ++ named) (with_value-before page back value before)

  -- The least name above

  above-behind : (front : Named V) → IsBehind name front → above front name ≡ []
  above-behind [] all = refl
  above-behind (pair ∷ front) all = ap (λ o. cond (is_lt o) (pair ∷ above front name) (above front name)) all.0 ∙ above-behind front all.1

  above-append : (front rest : Named V) → above (front ++ rest) name ≡ above front name ++ above rest name
  above-append front rest = filter-append (λ pair. is_lt (name_order name pair.0)) front rest

  pub next_above-behind : (front rest : Named V) → IsBehind name front → next_above (front ++ rest) name ≡ next_above rest name
  next_above-behind front rest all = ap (λ named. slice_get named 0) (above-append front rest ∙ ap (λ named. named ++ above rest name) (above-behind front all))

  first_by : (found rest : Named V) (pair : List ℕ × V) → slice_get found 0 ≡ Some pair → slice_get (found ++ rest) 0 ≡ Some pair
  first_by [] rest pair is = absurd cc
  first_by (first ∷ found) rest pair is = is

  pub next_above-here : (page rest : Named V) (pair : List ℕ × V) → next_above page name ≡ Some pair → next_above (page ++ rest) name ≡ Some pair
  next_above-here page rest pair is = ap (λ named. slice_get named 0) (above-append page rest) ∙ first_by (above page name) (above rest name) pair is

  none_by : (found rest : Named V) → slice_get found 0 ≡ None → slice_get (found ++ rest) 0 ≡ slice_get rest 0
  none_by [] rest is = refl
  none_by (first ∷ found) rest is = absurd cc

  pub next_above-later : (page rest : Named V) → next_above page name ≡ None → next_above (page ++ rest) name ≡ next_above rest name
  next_above-later page rest is = ap (λ named. slice_get named 0) (above-append page rest) ∙ none_by (above page name) (above rest name) is
