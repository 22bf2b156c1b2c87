-- The dated rows of an object with one master at most stand in order, no key twice.
use Rattle.std.proofs.Common.{◌≡◌, ℕ, ◌+◌, ◌<◌, ◌≤◌, List, [], ◌∷◌, ◌++◌, map, length, get_or, refl, sym, ◌∙◌, ap, ap₂, subst, arith, Bool, true, false, ℤ, ◌<ℤ◌, ◌⊎◌, inl, inr}
use Rattle.std.specs.Prelude.{All, AllPairs, Contains, filter, flat_map, not, nat_lt, slice_get, option_to_list, is_none, is_some, Option, Some, None}
use Rattle.std.proofs.lemmas.Int.{ints, by_lt_z}
use Rattle.std.proofs.lemmas.Bool.{cases_Bool, ltb-true, ltb-false}
use Rattle.std.specs.List.{list_any}
use Rattle.std.proofs.lemmas.Option.{none-some}
use Rattle.std.proofs.lemmas.List.{append-nil, map-append}
use Rattle.std.proofs.lemmas.List.Elements.{All-head, All-tail, All-nil, All-cons, All-append, All-map, All-filter, All-weaker, All-contains, Contains-get_or, filter-append}
use Rattle.std.proofs.lemmas.List.Kept.{AllPairs-cons, AllPairs-filter}
use Rattle.cal_moment.specs.declared.stamp.Stamp.{Stamp}
use Rattle.cal_model.specs.declared.object.Component.{Component}
use Rattle.cal_model.specs.declared.object.Object.{Object}
use Rattle.cal_model.specs.declared.row.Row.{Row}
use Rattle.cal_model.specs.Words.Lists.{first_or_else}
use Rattle.cal_model.specs.Instances.Alignment.{Aligned, at, on_day, align, reading_of, value_of, kind_of, names_start}
use Rattle.cal_model.specs.Instances.Starts.{own_start, recurs, is_excepted, plain_starts, period_starts, ascending, starts_from, starts_of, end_from, end_of_instance}
use Rattle.cal_model.specs.Instances.Rows.{Numbered, numbered_from, numbered, has_id, overrides, masters, ids_start, named_by, is_named, id_of_override, row_of, undated_row, undated_rows, is_dated, starts, master_row, Governor, governors_by, moves_later, governors, moved_row, master_rows, row_at, override_row, override_row_from, merged, dated_rows, in_order, lies_in_window, rows_in_over}
use Rattle.cal_model.proofs.Words.AllLemmas.{All-everywhere, All-flat_map, All-option}
use Rattle.cal_model.proofs.Words.ListTests.{any_from, each_of}
use Rattle.cal_model.proofs.Instances.EachRowLemmas.{All-numbered_from}
use Rattle.cal_model.proofs.Instances.GovernedRows.{Governs, All-governors, row_at-holds, moved_to, moved_row-holds}
use Rattle.cal_model.proofs.Instances.RisingLists.{IsBelow, IsBefore, by_id, by_component, HasOtherKey, AllPairs-head, AllPairs-tail, in_order-rising, in_order-has, in_order-only, in_order-is, ascending-rising}
use Rattle.cal_model.proofs.Ranges.WindowLaws.{Contains-filter, Contains-unfilter, AllPairs-append, HasRowsInOrder}

-- Lists.

short : {X : Type 0} (R : X → X → Type 0) (xs : List X) → length xs ≤ 1 → AllPairs R xs
short R xs le i j d lt below = absurd (omega (arith, le))

beyond : {X Y : Type 0} (P : X → Type 0) (R : Y → Y → Type 0) (f : X → List Y) (firsts : List Y) (ys : List X) → ((y : X) → P y → All (λ a. All (R a) (f y)) firsts) → All P ys → All (λ a. All (R a) (flat_map f ys)) firsts
beyond P R f firsts [] h all = All-everywhere (λ a. All (R a) []) (λ a. All-nil (R a)) firsts
beyond P R f firsts (y ∷ ys) h all =
    let here = h y (All-head P y ys all) in
    let rest = beyond P R f firsts ys h (All-tail P y ys all) in
    λ k d below. All-append (R (get_or firsts k d)) (f y) (flat_map f ys) (here k d below) (rest k d below)

AllPairs-flat_map : {X Y : Type 0} (S : X → X → Type 0) (R : Y → Y → Type 0) (f : X → List Y) (xs : List X) → AllPairs S xs → ((x : X) → AllPairs R (f x)) →
    ((x y : X) → S x y → All (λ a. All (R a) (f y)) (f x)) → AllPairs R (flat_map f xs)
AllPairs-flat_map S R f [] up each across = λ i j d lt below. absurd (omega (arith, below))
AllPairs-flat_map S R f (x ∷ xs) up each across =
    AllPairs-append R (f x) (flat_map f xs) (each x) (AllPairs-flat_map S R f xs (AllPairs-tail S x xs up) each across)
    (beyond (S x) R f (f x) xs (across x) (AllPairs-head S x xs up))

pub filter-none : {X : Type 0} (p : X → Bool) (xs : List X) → All (λ x. p x ≡ false) xs → filter p xs ≡ []
filter-none p [] all = refl
filter-none p (x ∷ xs) all = let here = All-head (λ x. p x ≡ false) x xs all in rw here (filter-none p xs (All-tail (λ x. p x ≡ false) x xs all))

-- Keys.

other_key : (a b : Row) → (a.component ≡ b.component → a.id ≡ b.id → ⊥) → HasOtherKey a b
other_key a b apart = by_lt_z a.id b.id (λ lt. inl (by_id lt))
    (λ ge. by_lt_z b.id a.id (λ gt. inr (by_id gt))
    (λ le. let same : a.id ≡ b.id = omega (arith, ints, ge, le) in elim (cases_Bool (nat_lt a.component b.component)) [
      | inl w ↦ inl (by_component same (ltb-true _ _ w))
      | inr w ↦ elim (cases_Bool (nat_lt b.component a.component)) [
        | inl v ↦ inr (by_component (sym same) (ltb-true _ _ v))
        | inr v ↦ absurd (let x = ltb-false _ _ w in let y = ltb-false _ _ v in apart (omega (arith, x, y)) same)
      ]
    ]))

other_by_component : (a b : Row) → (a.component ≡ b.component → ⊥) → HasOtherKey a b
other_by_component a b apart = other_key a b (λ same e. apart same)

-- Components by number.

abbrev ComesFirst : Numbered → Numbered → Type 0
ComesFirst n m = n.number < m.number

numbered-rising : (k : ℕ) (cs : List Component) → AllPairs ComesFirst (numbered_from k cs)
numbered-rising k [] = λ i j d lt below. absurd (omega (arith, below))
numbered-rising k (c ∷ cs) =
    AllPairs-cons ComesFirst (record { number = k; component = c }) (numbered_from (k + 1) cs)
    (All-numbered_from (λ m. k < m.number) (k + 1) cs (λ i j d e found. omega (arith, e))) (numbered-rising (k + 1) cs)

-- a component stands at its number, and is an override or none
pub record StandsAt (object : Object) (is_override : Bool) (n : Numbered) : Type 0 where
  pub found : slice_get object.components n.number ≡ Some n.component
  pub override : has_id n ≡ is_override

all_found : (object : Object) → All (λ (n : Numbered). slice_get object.components n.number ≡ Some n.component) (numbered object)
all_found object = All-numbered_from (λ (n : Numbered). slice_get object.components n.number ≡ Some n.component) 0 object.components (λ i j c e found. let here : j ≡ i = omega (arith, e) in rw here found)

standing : (object : Object) (test : Numbered → Bool) (is_override : Bool) → ((n : Numbered) → test n ≡ true → has_id n ≡ is_override) → (ns : List Numbered) → All (λ (n : Numbered). slice_get object.components n.number ≡ Some n.component) ns → All (StandsAt object is_override) (filter test ns)
standing object test is_override h [] all = All-nil _
standing object test is_override h (n ∷ ns) all = elim (cases_Bool (test n)) [
  | inl w ↦ rw w (All-cons (StandsAt object is_override) n (filter test ns) (record { found = All-head (λ (n : Numbered). slice_get object.components n.number ≡ Some n.component) n ns all; override = h n w }) (standing object test is_override h ns (All-tail (λ (n : Numbered). slice_get object.components n.number ≡ Some n.component) n ns all)))
  | inr w ↦ rw w (standing object test is_override h ns (All-tail (λ (n : Numbered). slice_get object.components n.number ≡ Some n.component) n ns all))
]

not_true : (b : Bool) → not b ≡ true → b ≡ false
not_true true h = absurd cc
not_true false h = refl

-- and each override
pub overrides_stand : (object : Object) → All (StandsAt object true) (overrides object)
overrides_stand object = standing object has_id true (λ n w. w) (numbered object) (all_found object)

-- each master stands at its number
pub masters_stand : (object : Object) → All (StandsAt object false) (masters object)
masters_stand object = standing object (λ n. not (has_id n)) false (λ n w. not_true (has_id n) w) (numbered object) (all_found object)

different_numbers : (object : Object) (n m : Numbered) → StandsAt object true n → StandsAt object false m → n.number ≡ m.number → ⊥
different_numbers object n m a b e =
    let first = a.found in
    let second : slice_get object.components n.number ≡ Some m.component = rw e b.found in
    let same : n.component ≡ m.component = cc in
    let yes : has_id m ≡ true = rw (← same) a.override in
    let no = b.override in
    absurd cc

-- Overrides.

one_override_row : (object : Object) (ids : Stamp) (all : List ℤ) (n : Numbered) (own id : Option Stamp) →
    length (flat_map (λ s. map (λ x. row_of (id_of_override object ids all x) (value_of object.zones s) (end_from object.zones n.component (value_of object.zones s)) n.number (kind_of ids) (kind_of s)) (map (λ x. align object.zones x ids) (option_to_list id))) (option_to_list own)) ≤ 1
one_override_row object ids all n None id = omega arith
one_override_row object ids all n (Some s) None = omega arith
one_override_row object ids all n (Some s) (Some x) = omega arith

override_component : (object : Object) (ids : Stamp) (all : List ℤ) (n : Numbered) → All (λ (a : Row). a.component ≡ n.number) (override_row object ids all n)
override_component object ids all n =
    All-flat_map (λ (a : Row). a.component ≡ n.number) (λ s. override_row_from object ids all n s (value_of object.zones s)) (option_to_list (own_start n.component))
    (All-everywhere (λ s. All (λ (a : Row). a.component ≡ n.number) (override_row_from object ids all n s (value_of object.zones s))) of_start (option_to_list (own_start n.component)))
  where
    of_start : (s : Stamp) → All (λ (a : Row). a.component ≡ n.number) (override_row_from object ids all n s (value_of object.zones s))
    of_start s =
        All-map (λ (a : Row). a.component ≡ n.number) (λ x. row_of (id_of_override object ids all x) (value_of object.zones s) (end_from object.zones n.component (value_of object.zones s)) n.number (kind_of ids) (kind_of s)) (named_by object.zones ids n)
        (All-everywhere (λ x. n.number ≡ n.number) (λ x. refl) (named_by object.zones ids n))

overrides_apart : (object : Object) (ids : Stamp) (all : List ℤ) → AllPairs HasOtherKey (flat_map (override_row object ids all) (overrides object))
overrides_apart object ids all =
    AllPairs-flat_map ComesFirst HasOtherKey (override_row object ids all) (overrides object) (AllPairs-filter ComesFirst has_id (numbered object) (numbered-rising 0 object.components))
    (λ n. short HasOtherKey (override_row object ids all n) (one_override_row object ids all n (own_start n.component) n.component.recurrence_id))
    across
  where
    across : (n m : Numbered) → ComesFirst n m → All (λ a. All (HasOtherKey a) (override_row object ids all m)) (override_row object ids all n)
    across n m lt =
        All-weaker (λ (a : Row). a.component ≡ n.number) (λ a. All (HasOtherKey a) (override_row object ids all m))
        (λ a e. All-weaker (λ (b : Row). b.component ≡ m.number) (HasOtherKey a) (λ b f. other_by_component a b (λ same. omega (arith, lt, e, f, same))) (override_row object ids all m) (override_component object ids all m))
        (override_row object ids all n) (override_component object ids all n)

-- Overrides that move later instances.

-- the rows of an override by its start and its RECURRENCE-ID
abbrev rows_by_name : Object → Stamp → List ℤ → Numbered → Option Stamp → Option Stamp → List Row
rows_by_name object ids all n own id =
    flat_map (λ s. map (λ y. row_of (id_of_override object ids all y) (value_of object.zones s) (end_from object.zones n.component (value_of object.zones s)) n.number (kind_of ids) (kind_of s)) (map (λ i. align object.zones i ids) (option_to_list id))) (option_to_list own)

-- they have the id by which it governs
abbrev HaveId : Object → Stamp → List ℤ → Numbered → Option Stamp → Option Stamp → Aligned → Type 0
HaveId object ids all n own id x = All (λ (a : Row). a.id ≡ id_of_override object ids all x) (rows_by_name object ids all n own id)

one_id : (object : Object) (ids : Stamp) (all : List ℤ) (n : Numbered) (own id : Option Stamp) → All (HaveId object ids all n own id) (map (λ i. align object.zones i ids) (option_to_list id))
one_id object ids all n own None = All-nil (HaveId object ids all n own None)
one_id object ids all n None (Some i) =
    All-cons (HaveId object ids all n None (Some i)) (align object.zones i ids) [] (All-nil (λ (a : Row). a.id ≡ id_of_override object ids all (align object.zones i ids))) (All-nil (HaveId object ids all n None (Some i)))
one_id object ids all n (Some s) (Some i) =
    All-cons (HaveId object ids all n (Some s) (Some i)) (align object.zones i ids) []
    (All-cons (λ (a : Row). a.id ≡ id_of_override object ids all (align object.zones i ids)) (row_of (id_of_override object ids all (align object.zones i ids)) (value_of object.zones s) (end_from object.zones n.component (value_of object.zones s)) n.number (kind_of ids) (kind_of s)) [] refl
    (All-nil (λ (a : Row). a.id ≡ id_of_override object ids all (align object.zones i ids))))
    (All-nil (HaveId object ids all n (Some s) (Some i)))

-- there is one, where both are there
one_there : (object : Object) (ids : Stamp) (all : List ℤ) (n : Numbered) (own id : Option Stamp) (s : Stamp) → own ≡ Some s → is_some id ≡ true → 0 < length (rows_by_name object ids all n own id)
one_there object ids all n None id s e there = absurd (none-some s e)
one_there object ids all n (Some t) None s e there = absurd cc
one_there object ids all n (Some t) (Some i) s e there = omega arith

-- what is known of an override by which starts are governed
pub record IsGovernor (object : Object) (ids : Stamp) (all : List ℤ) (g : Governor) : Type 0 where
  pub stands : StandsAt object true g.override
  pub own : own_start g.override.component ≡ Some g.start
  pub later : g.override.component.future ≡ true
  pub same_id : All (λ (a : Row). a.id ≡ g.id) (override_row object ids all g.override)
  pub there : 0 < length (override_row object ids all g.override)

pub governors_known : (object : Object) (ids : Stamp) (all : List ℤ) → All (IsGovernor object ids all) (governors object ids all)
governors_known object ids all =
    All-governors (IsGovernor object ids all) object ids all
    (All-weaker (StandsAt object true) (λ n. moves_later n ≡ true → All (IsGovernor object ids all) (governors_by object ids all n)) of_override (overrides object) (overrides_stand object))
  where
    governor : Numbered → Stamp → Aligned → Governor
    governor n s x = record { id = id_of_override object ids all x; start = s; override = n }

    of_override : (n : Numbered) → StandsAt object true n → moves_later n ≡ true → All (IsGovernor object ids all) (governors_by object ids all n)
    of_override n stands later =
        All-flat_map (IsGovernor object ids all) (λ s. map (governor n s) (named_by object.zones ids n)) (option_to_list (own_start n.component))
        (All-option (λ s. All (IsGovernor object ids all) (map (governor n s) (named_by object.zones ids n))) (own_start n.component)
        (λ s own. All-map (IsGovernor object ids all) (governor n s) (named_by object.zones ids n)
        (All-weaker (λ x. All (λ (a : Row). a.id ≡ id_of_override object ids all x) (override_row object ids all n)) (λ x. IsGovernor object ids all (governor n s x))
        (λ x same. record { stands = stands; own = own; later = later; same_id = same; there = one_there object ids all n (own_start n.component) n.component.recurrence_id s own stands.override })
        (named_by object.zones ids n) (one_id object ids all n (own_start n.component) n.component.recurrence_id))))

-- Instances of the master.

abbrev rows_of_masters : List ℕ → Object → Stamp → List Numbered → ℤ → List Row
rows_of_masters moments object ids ns r = flat_map (master_row moments object ids r) ns

one_master_row : (moments : List ℕ) (object : Object) (ids : Stamp) (r : ℤ) (n : Numbered) (own : Option Stamp) → length (map (λ s. row_of r r (end_of_instance moments object.zones s n.component r) n.number (kind_of ids) (kind_of s)) (option_to_list own)) ≤ 1
one_master_row moments object ids r n None = omega arith
one_master_row moments object ids r n (Some s) = omega arith

one_instance : (moments : List ℕ) (object : Object) (ids : Stamp) (r : ℤ) (ns : List Numbered) → length ns ≤ 1 → length (rows_of_masters moments object ids ns r) ≤ 1
one_instance moments object ids r [] le = omega arith
one_instance moments object ids r (n ∷ []) le = rw append-nil (one_master_row moments object ids r n (own_start n.component))
one_instance moments object ids r (n ∷ m ∷ ns) le = absurd (omega (arith, le))

instance_id : (moments : List ℕ) (object : Object) (ids : Stamp) (r : ℤ) (ns : List Numbered) → All (λ (a : Row). a.id ≡ r) (rows_of_masters moments object ids ns r)
instance_id moments object ids r ns =
    All-flat_map (λ (a : Row). a.id ≡ r) (master_row moments object ids r) ns
    (All-everywhere (λ n. All (λ (a : Row). a.id ≡ r) (master_row moments object ids r n)) of_master ns)
  where
    of_master : (n : Numbered) → All (λ (a : Row). a.id ≡ r) (master_row moments object ids r n)
    of_master n =
        All-map (λ (a : Row). a.id ≡ r) (λ s. row_of r r (end_of_instance moments object.zones s n.component r) n.number (kind_of ids) (kind_of s)) (option_to_list (own_start n.component))
        (All-everywhere (λ s. r ≡ r) (λ s. refl) (option_to_list (own_start n.component)))

starts_rise : (moments : List ℕ) (object : Object) (c : Component) (own : Option Stamp) → AllPairs IsBelow (starts_from moments object.zones c own)
starts_rise moments object c None = λ i j d lt below. absurd (omega (arith, below))
starts_rise moments object c (Some s) = elim (cases_Bool (recurs c)) [
  | inl w ↦ rw w (AllPairs-filter IsBelow (λ r. not (is_excepted object.zones s c r)) (ascending (plain_starts moments object.zones s c ++ period_starts object.zones s c)) (ascending-rising (plain_starts moments object.zones s c ++ period_starts object.zones s c)))
  | inr w ↦ rw w (short IsBelow (value_of object.zones s ∷ []) (omega arith))
]

all_starts_rise : (moments : List ℕ) (object : Object) (ns : List Numbered) → length ns ≤ 1 → AllPairs IsBelow (flat_map (λ (n : Numbered). starts_of moments object.zones n.component) ns)
all_starts_rise moments object [] le = λ i j d lt below. absurd (omega (arith, below))
all_starts_rise moments object (n ∷ []) le = rw append-nil (starts_rise moments object n.component (own_start n.component))
all_starts_rise moments object (n ∷ m ∷ ns) le = absurd (omega (arith, le))

-- the rows of a start: one at most, and its id is the start
one_at : (moments : List ℕ) (object : Object) (ids : Stamp) (all : List ℤ) (r : ℤ) → length (masters object) ≤ 1 → length (row_at moments object ids all r) ≤ 1
one_at moments object ids all r one =
    row_at-holds (λ rows. length rows ≤ 1) moments object ids all r (one_instance moments object ids r (masters object) one)
    (λ g governs. moved_row-holds (λ rows. length rows ≤ 1) object ids r g (omega arith) (λ served. omega arith))

id_at : (moments : List ℕ) (object : Object) (ids : Stamp) (all : List ℤ) (r : ℤ) → All (λ (a : Row). a.id ≡ r) (row_at moments object ids all r)
id_at moments object ids all r =
    row_at-holds (All (λ (a : Row). a.id ≡ r)) moments object ids all r (instance_id moments object ids r (masters object))
    (λ g governs. moved_row-holds (All (λ (a : Row). a.id ≡ r)) object ids r g (All-nil _) (λ served. All-cons (λ (a : Row). a.id ≡ r) (moved_to object ids r g) [] refl (All-nil _)))

instances_apart : (moments : List ℕ) (object : Object) (ids : Stamp) (all starts : List ℤ) → length (masters object) ≤ 1 → AllPairs IsBelow starts → AllPairs HasOtherKey (flat_map (row_at moments object ids all) starts)
instances_apart moments object ids all starts one up =
    AllPairs-flat_map IsBelow HasOtherKey (row_at moments object ids all) starts up
    (λ r. short HasOtherKey (row_at moments object ids all r) (one_at moments object ids all r one))
    across
  where
    across : (r q : ℤ) → IsBelow r q → All (λ a. All (HasOtherKey a) (row_at moments object ids all q)) (row_at moments object ids all r)
    across r q lt =
        All-weaker (λ (a : Row). a.id ≡ r) (λ a. All (HasOtherKey a) (row_at moments object ids all q))
        (λ a e. All-weaker (λ (b : Row). b.id ≡ q) (HasOtherKey a) (λ b f. inl (by_id (omega (arith, ints, lt, e, f)))) (row_at moments object ids all q) (id_at moments object ids all q))
        (row_at moments object ids all r) (id_at moments object ids all r)

-- Together.

-- a row of a start that has the number of an override stands behind the override's own, which is there
abbrev pub StandsBehind : Object → Stamp → List ℤ → Numbered → Row → Type 0
StandsBehind object ids all n b = b.component ≡ n.number → All (λ (a : Row). a.id <ℤ b.id) (override_row object ids all n) × (0 < length (override_row object ids all n))

-- two overrides with one number are one
same_override : (object : Object) (n m : Numbered) → StandsAt object true n → StandsAt object true m → n.number ≡ m.number → n ≡ m
same_override object n m a b e =
    let first = a.found in
    let second : slice_get object.components n.number ≡ Some m.component = rw e b.found in
    let same : n.component ≡ m.component = cc in
    ap₂ (λ (number : ℕ) (component : Component). record { number = number; component = component }) e same

row_behind : (moments : List ℕ) (object : Object) (ids : Stamp) (all : List ℤ) (n : Numbered) → StandsAt object true n → (r : ℤ) → All (StandsBehind object ids all n) (row_at moments object ids all r)
row_behind moments object ids all n stands r =
    row_at-holds (All (StandsBehind object ids all n)) moments object ids all r
    (All-flat_map (StandsBehind object ids all n) (master_row moments object ids r) (masters object)
    (All-weaker (StandsAt object false) (λ m. All (StandsBehind object ids all n) (master_row moments object ids r m)) of_master (masters object) (masters_stand object)))
    moved
  where
    of_master : (m : Numbered) → StandsAt object false m → All (StandsBehind object ids all n) (master_row moments object ids r m)
    of_master m there =
        All-map (StandsBehind object ids all n) (λ s. row_of r r (end_of_instance moments object.zones s m.component r) m.number (kind_of ids) (kind_of s)) (option_to_list (own_start m.component))
        (All-everywhere (λ s. m.number ≡ n.number → All (λ (a : Row). a.id <ℤ r) (override_row object ids all n) × (0 < length (override_row object ids all n))) (λ s e. absurd (different_numbers object n m stands there (sym e))) (option_to_list (own_start m.component)))

    behind : (g : Governor) → Governs object ids all r g → g.override.number ≡ n.number → All (λ (a : Row). a.id <ℤ r) (override_row object ids all n) × (0 < length (override_row object ids all n))
    behind g governs e =
        let known = All-contains (IsGovernor object ids all) (governors object ids all) g (governors_known object ids all) governs.among in
        let before = governs.before in
        let same : g.override ≡ n = same_override object g.override n known.stands stands e in (
          All-weaker (λ (a : Row). a.id ≡ g.id) (λ (a : Row). a.id <ℤ r) (λ a f. omega (arith, ints, f, before)) (override_row object ids all n) (subst (λ m. All (λ (a : Row). a.id ≡ g.id) (override_row object ids all m)) same known.same_id),
          subst (λ m. 0 < length (override_row object ids all m)) same known.there,
        )

    moved : (g : Governor) → Governs object ids all r g → All (StandsBehind object ids all n) (moved_row object ids r g)
    moved g governs =
        moved_row-holds (All (StandsBehind object ids all n)) object ids r g (All-nil _)
        (λ served. All-cons (StandsBehind object ids all n) (moved_to object ids r g) [] (behind g governs) (All-nil _))

-- the overrides' rows and the rows of any rising list of starts that none of them names
pub parts_apart : (moments : List ℕ) (object : Object) (ids : Stamp) (all starts : List ℤ) → length (masters object) ≤ 1 → AllPairs IsBelow starts →
    AllPairs HasOtherKey (flat_map (override_row object ids all) (overrides object) ++ filter (λ (r : Row). not (is_named object ids r.id)) (flat_map (row_at moments object ids all) starts))
parts_apart moments object ids all starts one up =
    AllPairs-append HasOtherKey (flat_map (override_row object ids all) (overrides object)) kept
    (overrides_apart object ids all)
    (AllPairs-filter HasOtherKey (λ (r : Row). not (is_named object ids r.id)) (flat_map (row_at moments object ids all) starts)
    (instances_apart moments object ids all starts one up))
    (All-flat_map (λ a. All (HasOtherKey a) kept) (override_row object ids all) (overrides object)
    (All-weaker (StandsAt object true) (λ n. All (λ a. All (HasOtherKey a) kept) (override_row object ids all n)) across (overrides object) (overrides_stand object)))
  where
    kept : List Row
    kept = filter (λ (r : Row). not (is_named object ids r.id)) (flat_map (row_at moments object ids all) starts)

    all_behind : (n : Numbered) → StandsAt object true n → All (StandsBehind object ids all n) kept
    all_behind n stands =
        All-filter (λ (r : Row). not (is_named object ids r.id)) (StandsBehind object ids all n) (flat_map (row_at moments object ids all) starts)
        (All-flat_map (StandsBehind object ids all n) (row_at moments object ids all) starts
        (All-everywhere (λ r. All (StandsBehind object ids all n) (row_at moments object ids all r)) (row_behind moments object ids all n stands) starts))

    -- an own row that has the component of a row behind it
    apart : (n : Numbered) (a b : Row) → Contains (override_row object ids all n) a → a.component ≡ n.number → StandsBehind object ids all n b → HasOtherKey a b
    apart n a b c e behind = other_key a b (λ same id. let lt = All-contains (λ (x : Row). x.id <ℤ b.id) (override_row object ids all n) a (behind (sym same ∙ e)).0 c in omega (arith, ints, lt, id))

    across : (n : Numbered) → StandsAt object true n → All (λ a. All (HasOtherKey a) kept) (override_row object ids all n)
    across n stands = λ k d lt.
        let a = get_or (override_row object ids all n) k d in
        All-weaker (StandsBehind object ids all n) (HasOtherKey a) (λ b behind. apart n a b (Contains-get_or (override_row object ids all n) k d lt) (override_component object ids all n k d lt) behind) kept (all_behind n stands)

-- the rows of the overrides, and the instances that none of them names
abbrev pub own_rows : List ℕ → Object → Stamp → List Row
own_rows moments object ids = flat_map (override_row object ids (starts moments object)) (overrides object)

abbrev pub kept_instances : List ℕ → Object → Stamp → List Row
kept_instances moments object ids = filter (λ (r : Row). not (is_named object ids r.id)) (flat_map (row_at moments object ids (starts moments object)) (starts moments object))

-- all starts of an object rise
pub starts-rising : (moments : List ℕ) (object : Object) → length (masters object) ≤ 1 → AllPairs IsBelow (starts moments object)
starts-rising moments object one = all_starts_rise moments object (masters object) one

pub own_and_kept_apart : (moments : List ℕ) (object : Object) (ids : Stamp) → length (masters object) ≤ 1 → AllPairs HasOtherKey (own_rows moments object ids ++ kept_instances moments object ids)
own_and_kept_apart moments object ids one = parts_apart moments object ids (starts moments object) (starts moments object) one (starts-rising moments object one)

-- the instances that no override names
pub kept_behind : (moments : List ℕ) (object : Object) (ids : Stamp) (n : Numbered) → StandsAt object true n → All (StandsBehind object ids (starts moments object) n) (kept_instances moments object ids)
kept_behind moments object ids n stands =
    All-filter (λ (r : Row). not (is_named object ids r.id)) (StandsBehind object ids (starts moments object) n) (flat_map (row_at moments object ids (starts moments object)) (starts moments object))
    (All-flat_map (StandsBehind object ids (starts moments object) n) (row_at moments object ids (starts moments object)) (starts moments object)
    (All-everywhere (λ r. All (StandsBehind object ids (starts moments object) n) (row_at moments object ids (starts moments object) r)) (row_behind moments object ids (starts moments object) n stands) (starts moments object)))

dated_rows-rising : (moments : List ℕ) (object : Object) (ids : Stamp) → length (masters object) ≤ 1 → AllPairs IsBefore (dated_rows (row_at moments object) moments object ids)
dated_rows-rising moments object ids one = in_order-rising (own_rows moments object ids ++ kept_instances moments object ids) (own_and_kept_apart moments object ids one)

all_rising : (moments : List ℕ) (object : Object) (ids : Option Stamp) → length (masters object) ≤ 1 → AllPairs IsBefore (flat_map (dated_rows (row_at moments object) moments object) (option_to_list ids))
all_rising moments object None one = λ i j d lt below. absurd (omega (arith, below))
all_rising moments object (Some ids) one = rw append-nil (dated_rows-rising moments object ids one)

-- the dated rows of an object stand in order, no key twice
pub rows-in_order : (moments : List ℕ) (object : Object) → length (masters object) ≤ 1 → HasRowsInOrder moments object
rows-in_order moments object one =
    rw (filter-append, filter-none is_dated (undated_rows object) (All-map (λ row. is_dated row ≡ false) undated_row (filter (λ (n : Numbered). is_none (own_start n.component)) (numbered object)) (All-everywhere (λ n. is_dated (undated_row n) ≡ false) (λ n. refl) (filter (λ (n : Numbered). is_none (own_start n.component)) (numbered object)))))
    (AllPairs-filter IsBefore is_dated (flat_map (dated_rows (row_at moments object) moments object) (option_to_list (ids_start object))) (all_rising moments object (ids_start object) one))

-- What overrides name of the starts they name of the ids of the instances, so a merge needs the instances alone.

-- the ids of a master's rows at some starts are these starts
pub ids_of_master : (moments : List ℕ) (object : Object) (ids : Stamp) (n : Numbered) (own : Option Stamp) → (all : List ℤ) → (own ≡ None → all ≡ []) →
    map (λ (r : Row). r.id) (flat_map (λ q. map (λ s. row_of q q (end_of_instance moments object.zones s n.component q) n.number (kind_of ids) (kind_of s)) (option_to_list own) ++ []) all) ≡ all
ids_of_master moments object ids n None all none = let e = none refl in rw e refl
ids_of_master moments object ids n (Some s) [] none = refl
ids_of_master moments object ids n (Some s) (q ∷ qs) none = ap (λ rest. q ∷ rest) (ids_of_master moments object ids n (Some s) qs (λ e. absurd cc))

no_starts : (moments : List ℕ) (object : Object) (n : Numbered) → own_start n.component ≡ None → starts_of moments object.zones n.component ++ [] ≡ []
no_starts moments object n e = rw e refl

-- the instances at all starts
abbrev pub instances : List ℕ → Object → Stamp → List Row
instances moments object ids = flat_map (row_at moments object ids (starts moments object)) (starts moments object)

-- the master has one row at a start, and that is its id
pub record HasOneRow (moments : List ℕ) (object : Object) (ids : Stamp) (r : ℤ) : Type 0 where
  pub row : Row
  pub is : master_rows moments object ids r ≡ row ∷ []
  pub id : row.id ≡ r

one_of_masters : (moments : List ℕ) (object : Object) (ids : Stamp) (ns : List Numbered) → length ns ≤ 1 → masters object ≡ ns → All (HasOneRow moments object ids) (flat_map (λ (n : Numbered). starts_of moments object.zones n.component) ns)
one_of_masters moments object ids [] le e = All-nil _
one_of_masters moments object ids (n ∷ []) le e = elim (cases_start (own_start n.component)) [
  | inl none ↦ subst (All (HasOneRow moments object ids)) (sym (no_starts moments object n none)) (All-nil _)
  | inr found ↦ All-everywhere (HasOneRow moments object ids) (λ r. record {
    row = row_of r r (end_of_instance moments object.zones found.0 n.component r) n.number (kind_of ids) (kind_of found.0);
    is = ap (flat_map (master_row moments object ids r)) e
        ∙ ap (λ (own : Option Stamp). map (λ s. row_of r r (end_of_instance moments object.zones s n.component r) n.number (kind_of ids) (kind_of s)) (option_to_list own) ++ []) found.1;
    id = refl;
  }) _
]
  where
    cases_start : (own : Option Stamp) → (own ≡ None) ⊎ ((s : Stamp) × (own ≡ Some s))
    cases_start None = inl refl
    cases_start (Some s) = inr (s, refl)
one_of_masters moments object ids (n ∷ m ∷ ns) le e = absurd (omega (arith, le))

-- at each of its starts
pub master_has : (moments : List ℕ) (object : Object) (ids : Stamp) → length (masters object) ≤ 1 → All (HasOneRow moments object ids) (starts moments object)
master_has moments object ids one = one_of_masters moments object ids (masters object) one refl

module _ (moments : List ℕ) (object : Object) (ids : Stamp) (all : List ℤ) (x : Aligned) where
  abbrev by_name : ℤ → Bool
  by_name r = names_start (reading_of object.zones ids) r x

  -- what an override names of the ids of instances it names of their starts
  ids_named : ((r : ℤ) → by_name r ≡ true → is_named object ids r ≡ true) → (rs : List ℤ) → All (HasOneRow moments object ids) rs →
      filter by_name (map (λ (row : Row). row.id) (flat_map (row_at moments object ids all) rs)) ≡ filter by_name rs
  ids_named named [] whole = refl
  ids_named named (r ∷ rs) whole =
      ap (filter by_name) (map-append (λ (row : Row). row.id) (row_at moments object ids all r) (flat_map (row_at moments object ids all) rs))
      ∙ (filter-append by_name (map (λ (row : Row). row.id) (row_at moments object ids all r)) (map (λ (row : Row). row.id) (flat_map (row_at moments object ids all) rs))
      ∙ (ap₂ (λ (xs ys : List ℤ). xs ++ ys) here (ids_named named rs (All-tail (HasOneRow moments object ids) r rs whole))
      ∙ sym (filter-append by_name (r ∷ []) rs)))
    where
      its_id : map (λ (row : Row). row.id) (master_rows moments object ids r) ≡ r ∷ []
      its_id =
          let has = All-head (HasOneRow moments object ids) r rs whole in
          ap (map (λ (row : Row). row.id)) has.is ∙ ap (λ i. i ∷ []) has.id

      here : filter by_name (map (λ (row : Row). row.id) (row_at moments object ids all r)) ≡ filter by_name (r ∷ [])
      here = elim (cases_Bool (by_name r)) [
        | inl w ↦ (let is = named r w in
            let its : row_at moments object ids all r ≡ master_rows moments object ids r = rw is refl in
            ap (λ rows. filter by_name (map (λ (row : Row). row.id) rows)) its ∙ ap (filter by_name) its_id)
        | inr w ↦ filter-none by_name (map (λ (row : Row). row.id) (row_at moments object ids all r))
            (All-map (λ q. by_name q ≡ false) (λ (row : Row). row.id) (row_at moments object ids all r)
            (All-weaker (λ (a : Row). a.id ≡ r) (λ (a : Row). by_name a.id ≡ false) (λ a e. ap by_name e ∙ w) (row_at moments object ids all r) (id_at moments object ids all r)))
            ∙ sym (filter-none by_name (r ∷ []) (All-cons (λ q. by_name q ≡ false) r [] w (All-nil _)))
      ]

-- the overrides' rows take what they need of two lists, if each names the same starts in both
pub map_same : {X Y : Type 0} (f g : X → Y) (xs : List X) → All (λ x. f x ≡ g x) xs → map f xs ≡ map g xs
map_same f g [] h = refl
map_same f g (x ∷ xs) h = ap₂ (λ y ys. y ∷ ys) (All-head (λ x. f x ≡ g x) x xs h) (map_same f g xs (All-tail (λ x. f x ≡ g x) x xs h))

pub flat_map_same : {X Y : Type 0} (f g : X → List Y) (xs : List X) → All (λ x. f x ≡ g x) xs → flat_map f xs ≡ flat_map g xs
flat_map_same f g [] h = refl
flat_map_same f g (x ∷ xs) h = ap₂ (λ ys zs. ys ++ zs) (All-head (λ x. f x ≡ g x) x xs h) (flat_map_same f g xs (All-tail (λ x. f x ≡ g x) x xs h))

-- two lists of starts give an override the same id
abbrev pub GiveSameId : Object → Stamp → List ℤ → List ℤ → Numbered → Type 0
GiveSameId object ids some all n = All (λ x. id_of_override object ids some x ≡ id_of_override object ids all x) (named_by object.zones ids n)

one_own_row : (object : Object) (ids : Stamp) (some all : List ℤ) (n : Numbered) → GiveSameId object ids some all n → (own : Option Stamp) →
    flat_map (λ s. override_row_from object ids some n s (value_of object.zones s)) (option_to_list own) ≡ flat_map (λ s. override_row_from object ids all n s (value_of object.zones s)) (option_to_list own)
one_own_row object ids some all n same None = refl
one_own_row object ids some all n same (Some s) =
    let make : ℤ → Row = λ id. row_of id (value_of object.zones s) (end_from object.zones n.component (value_of object.zones s)) n.number (kind_of ids) (kind_of s) in
    ap (λ ys. ys ++ []) (map_same (λ x. make (id_of_override object ids some x)) (λ x. make (id_of_override object ids all x)) (named_by object.zones ids n)
    (All-weaker (λ x. id_of_override object ids some x ≡ id_of_override object ids all x) (λ x. make (id_of_override object ids some x) ≡ make (id_of_override object ids all x)) (λ x e. ap make e) (named_by object.zones ids n) same))

pub same_own_rows : (object : Object) (ids : Stamp) (some all : List ℤ) → All (GiveSameId object ids some all) (overrides object) →
    flat_map (override_row object ids some) (overrides object) ≡ flat_map (override_row object ids all) (overrides object)
same_own_rows object ids some all same =
    flat_map_same (override_row object ids some) (override_row object ids all) (overrides object)
    (All-weaker (GiveSameId object ids some all) (λ n. override_row object ids some n ≡ override_row object ids all n) (λ n h. one_own_row object ids some all n h (own_start n.component)) (overrides object) same)

-- an override's name is one of the names
named_by_one : (object : Object) (ids : Stamp) (n : Numbered) (x : Aligned) (r : ℤ) → Contains (overrides object) n → Contains (named_by object.zones ids n) x → names_start (reading_of object.zones ids) r x ≡ true → is_named object ids r ≡ true
named_by_one object ids n x r c d e =
    any_from (λ m. list_any (names_start (reading_of object.zones ids) r) (named_by object.zones ids m)) (overrides object) n c
    (any_from (names_start (reading_of object.zones ids) r) (named_by object.zones ids n) x d e)

-- so the ids of the rows at some starts give each override the id that these starts give it
pub ids-given : (moments : List ℕ) (object : Object) (ids : Stamp) (all rs : List ℤ) → All (HasOneRow moments object ids) rs → All (GiveSameId object ids (map (λ (r : Row). r.id) (flat_map (row_at moments object ids all) rs)) rs) (overrides object)
ids-given moments object ids all rs whole = each_of (GiveSameId object ids given rs) (overrides object) of_override
  where
    given : List ℤ
    given = map (λ (r : Row). r.id) (flat_map (row_at moments object ids all) rs)

    same_id : (n : Numbered) → Contains (overrides object) n → (x : Aligned) → Contains (named_by object.zones ids n) x → id_of_override object ids given x ≡ id_of_override object ids rs x
    same_id n c (at v) d = refl
    same_id n c (on_day m) d =
        ap (first_or_else ((reading_of object.zones ids).instant m)) (ids_named moments object ids all (on_day m) (λ r. named_by_one object ids n (on_day m) r c d) rs whole)

    of_override : (n : Numbered) → Contains (overrides object) n → GiveSameId object ids given rs n
    of_override n c = each_of (λ x. id_of_override object ids given x ≡ id_of_override object ids rs x) (named_by object.zones ids n) (same_id n c)

pub dated_rows-merged : (moments : List ℕ) (object : Object) (ids : Stamp) → length (masters object) ≤ 1 →
    dated_rows (row_at moments object) moments object ids ≡ merged object ids (map (λ (r : Row). r.id) (instances moments object ids)) (instances moments object ids)
dated_rows-merged moments object ids one =
    ap (λ own. in_order (own ++ filter (λ (r : Row). not (is_named object ids r.id)) (instances moments object ids)))
    (sym (same_own_rows object ids (map (λ (r : Row). r.id) (instances moments object ids)) (starts moments object) (ids-given moments object ids (starts moments object) (starts moments object) (master_has moments object ids one))))

-- The rows of a window are made of the parts of it alone.

pub filter-in_order : (p : Row → Bool) (xs : List Row) → AllPairs HasOtherKey xs → filter p (in_order xs) ≡ in_order (filter p xs)
filter-in_order p xs other =
    in_order-is (filter p (in_order xs)) (filter p xs) (AllPairs-filter IsBefore p (in_order xs) (in_order-rising xs other)) (AllPairs-filter HasOtherKey p xs other)
    (λ row c. let both = Contains-unfilter p row (in_order xs) c in Contains-filter p row xs both.0 (in_order-only row xs both.1))
    (λ row c. let both = Contains-unfilter p row xs c in Contains-filter p row (in_order xs) both.0 (in_order-has row xs both.1))

none_lies : (object : Object) (window : ℤ) → filter (lies_in_window object window) (undated_rows object) ≡ []
none_lies object window =
    filter-none (lies_in_window object window) (undated_rows object)
    (All-map (λ row. lies_in_window object window row ≡ false) undated_row (filter (λ (n : Numbered). is_none (own_start n.component)) (numbered object))
    (All-everywhere (λ n. lies_in_window object window (undated_row n) ≡ false) (λ n. refl) (filter (λ (n : Numbered). is_none (own_start n.component)) (numbered object))))

-- the overrides' own rows that lie in it, and the instances in it that no override names
pub rows_in-parts : (moments : List ℕ) (object : Object) (ids : Stamp) (window : ℤ) → ids_start object ≡ Some ids → length (masters object) ≤ 1 →
    rows_in_over moments object window ≡ in_order (filter (lies_in_window object window) (own_rows moments object ids) ++ filter (lies_in_window object window) (kept_instances moments object ids))
rows_in-parts moments object ids window e one =
    rw (filter-append, none_lies object window, e, append-nil (dated_rows (row_at moments object) moments object ids), filter-in_order (lies_in_window object window) (own_rows moments object ids ++ kept_instances moments object ids) (own_and_kept_apart moments object ids one))
    (ap in_order (filter-append (lies_in_window object window) (own_rows moments object ids) (kept_instances moments object ids)))
