-- What rows say of components, component by component, is what the definition asks of all rows.
use Rattle.std.proofs.Common.{◌≡◌, ℕ, ◌+◌, ◌<◌, ◌≤◌, Bool, true, false, not, List, [], ◌∷◌, ◌++◌, length, map, take, get_or, refl, sym, ap, ap₂, subst, ◌∙◌, arith, ℤ, Option, Some, None}
use Rattle.std.specs.Prelude.{◌==◌, ◌||◌, if◌then◌else◌, All, filter, flat_map, option_to_list, is_some, unwrap_or, slice_get}
use Rattle.std.specs.List.{list_any, enumerate_from}
use Rattle.std.proofs.lemmas.List.Elements.{All-cons, All-filter, All-head, All-nil, All-tail}
use Rattle.std.proofs.lemmas.List.Folds.{list_any-append}
use Rattle.std.proofs.lemmas.Option.{none-some, same_Some}
use Rattle.cal_base.specs.declared.line.Node.{Node}
use Rattle.cal_moment.specs.Calendar.{IsCalendarMoment}
use Rattle.cal_moment.specs.declared.stamp.Stamp.{Stamp}
use Rattle.cal_model.specs.declared.object.Component.{Component}
use Rattle.cal_model.specs.declared.object.Object.{Object}
use Rattle.cal_model.specs.declared.row.Row.{Row}
use Rattle.cal_model.specs.Instances.Alignment.{Aligned, at, on_day, align}
use Rattle.cal_model.specs.Instances.Rows.{Numbered, has_id, id_of_override, ids_start, is_dated, masters, named_by, numbered, numbered_from}
use Rattle.cal_model.specs.Selections.LimitedSets.{dated_ids, is_left_out, left_out, original_row, original_rows, rows_of_override}
use Rattle.cal_model.proofs.Instances.EachRowLemmas.{All-numbered_from}
use Rattle.cal_model.proofs.Words.AllLemmas.{All-slice_get}
use Rattle.override_merge.specs.Conversions.{HasConvertibleRow, IsConvertible}
use Rattle.override_merge.proofs.StampLemmas.{ids_convertible}
use Rattle.expand_limit.specs.declared.limit.Limit.{Limit}
use Rattle.expand_limit.specs.declared.limit.Seen.{Seen}
use Rattle.expand_limit.specs.InstanceLines.{IsShownRow}
use Rattle.expand_limit.specs.SeenRows.{IsMaster, goes, id_said, id_with, is_place, left_at, left_from, left_nodes, meets, named_id, nothing_seen, originals, seen_by, seen_more, seen_over, seen_row}
use Rattle.expand_limit.proofs.ListSteps.{flat_map-same}

or_none : (b : Bool) → b ≡ (b || false)
or_none true = refl
or_none false = refl

or_three : (a b c : Bool) → ((a || b) || c) ≡ (a || (b || c))
or_three true b c = refl
or_three false b c = refl

abbrev of_number : ℕ → Row → Bool
of_number number row = row.component == number

-- Whether a row overlaps the range

meets_rows : (limit : Limit) (number : ℕ) (rows : List Row) (seen : Seen) → (seen_over limit number rows seen).meets ≡ (seen.meets || list_any (meets limit) (filter (of_number number) rows))
meets_rows limit number [] seen = or_none seen.meets
meets_rows limit number (row ∷ rows) seen = next (row.component == number) (meets_rows limit number rows (seen_row limit row seen)) (meets_rows limit number rows seen)
  where
    those : Bool
    those = list_any (meets limit) (filter (of_number number) rows)

    next : (b : Bool) → (seen_over limit number rows (seen_row limit row seen)).meets ≡ ((seen.meets || meets limit row) || those) → (seen_over limit number rows seen).meets ≡ (seen.meets || those)
        → (seen_over limit number rows (if b then seen_row limit row seen else seen)).meets ≡ (seen.meets || list_any (meets limit) (if b then row ∷ filter (of_number number) rows else filter (of_number number) rows))
    next true with_row without = with_row ∙ or_three seen.meets (meets limit row) those
    next false with_row without = without

-- The first id

abbrev first_there : Option ℤ → List ℤ → Option ℤ
first_there (Some id) ids = Some id
first_there None [] = None
first_there None (id ∷ ids) = Some id

abbrev ids_in : List Row → List ℤ
ids_in rows = map (λ (row : Row). row.id) rows

first_none : (o : Option ℤ) → o ≡ first_there o []
first_none (Some id) = refl
first_none None = refl

first_one : (row : Row) (rows : List Row) (o : Option ℤ) → first_there (id_with row o) (ids_in rows) ≡ first_there o (ids_in (if is_dated row then row ∷ rows else rows))
first_one row rows (Some id) = refl
first_one row rows None = next (is_dated row)
  where
    next : (b : Bool) → first_there (if b then Some row.id else None) (ids_in rows) ≡ first_there None (ids_in (if b then row ∷ rows else rows))
    next true = refl
    next false = refl

id_rows : (limit : Limit) (number : ℕ) (rows : List Row) (seen : Seen) → (seen_over limit number rows seen).id ≡ first_there seen.id (ids_in (filter is_dated (filter (of_number number) rows)))
id_rows limit number [] seen = first_none seen.id
id_rows limit number (row ∷ rows) seen = next (row.component == number) (id_rows limit number rows (seen_row limit row seen)) (id_rows limit number rows seen)
  where
    those : List Row
    those = filter is_dated (filter (of_number number) rows)

    next : (b : Bool) → (seen_over limit number rows (seen_row limit row seen)).id ≡ first_there (id_with row seen.id) (ids_in those) → (seen_over limit number rows seen).id ≡ first_there seen.id (ids_in those)
        → (seen_over limit number rows (if b then seen_row limit row seen else seen)).id ≡ first_there seen.id (ids_in (filter is_dated (if b then row ∷ filter (of_number number) rows else filter (of_number number) rows)))
    next true with_row without = with_row ∙ first_one row those seen.id
    next false with_row without = without

take_first : (xs ys : List ℤ) → take 1 (xs ++ ys) ≡ take 1 (option_to_list (first_there None xs) ++ ys)
take_first [] ys = refl
take_first (x ∷ xs) ys = refl

-- Original instances

said-same : (object : Object) (s : Stamp) (x : Aligned) → id_of_override object s [] x ≡ id_said object.zones s x
said-same object s (at v) = refl
said-same object s (on_day midnight) = refl

originals-same : (limit : Limit) (rows : List Row) (n : Numbered) (name : Stamp) (ids : Option Stamp) → n.component.recurrence_id ≡ Some name
    → flat_map (original_rows limit.object.now rows n) (option_to_list ids) ≡ originals limit ids name (seen_by limit rows n.number).id
originals-same limit rows n name ids is =
    flat_map-same (original_rows limit.object.now rows n) (λ s. flat_map (λ id. map (original_row limit.object.now s id) (masters limit.object.now)) (take 1 (option_to_list (seen_by limit rows n.number).id ++ named_id limit.object.now.zones s name ∷ [])))
    (λ s. ap (flat_map (λ id. map (original_row limit.object.now s id) (masters limit.object.now))) (same_ids s)) (option_to_list ids)
  where
    same_ids : (s : Stamp) → take 1 (dated_ids rows n ++ map (id_of_override limit.object.now s []) (named_by limit.object.now.zones s n)) ≡ take 1 (option_to_list (seen_by limit rows n.number).id ++ named_id limit.object.now.zones s name ∷ [])
    same_ids s =
        ap (λ o. take 1 (dated_ids rows n ++ map (id_of_override limit.object.now s []) (map (λ x. align limit.object.now.zones x s) (option_to_list o)))) is
        ∙ ap (λ id. take 1 (dated_ids rows n ++ id ∷ [])) (said-same limit.object.now s (align limit.object.now.zones name s))
        ∙ take_first (dated_ids rows n) (named_id limit.object.now.zones s name ∷ [])
        ∙ ap (λ o. take 1 (option_to_list o ++ named_id limit.object.now.zones s name ∷ [])) (sym (id_rows limit n.number rows nothing_seen))

goes-same : (limit : Limit) (rows : List Row) (n : Numbered) (name : Stamp) → n.component.recurrence_id ≡ Some name
    → is_left_out limit.object.now rows limit.zone.now limit.range n ≡ goes limit (ids_start limit.object.now) name (seen_by limit rows n.number)
goes-same limit rows n name is =
    ap not (list_any-append (meets limit) (rows_of_override rows n) (flat_map (original_rows limit.object.now rows n) (option_to_list (ids_start limit.object.now)))
    ∙ ap₂ (λ a b. a || b) (sym (meets_rows limit n.number rows nothing_seen)) (ap (list_any (meets limit)) (originals-same limit rows n name (ids_start limit.object.now) is)))

-- The places of the overrides that go

abbrev place_of : Numbered → ℕ
place_of n = n.component.child

pub left-same : (limit : Limit) (rows : List Row) (seen : List Seen) (size number : ℕ) (cs : List Component) → ((k : ℕ) → k < size → get_or seen k nothing_seen ≡ seen_by limit rows k) → number + length cs ≤ size
    → left_from limit (ids_start limit.object.now) seen number cs ≡ map place_of (filter (is_left_out limit.object.now rows limit.zone.now limit.range) (filter has_id (numbered_from number cs)))
left-same limit rows seen size number [] known within = refl
left-same limit rows seen size number (c ∷ cs) known within = one c.recurrence_id refl (left-same limit rows seen size (number + 1) cs known (omega (arith, within)))
  where
    n : Numbered
    n = record { number = number; component = c }

    left : Numbered → Bool
    left = is_left_out limit.object.now rows limit.zone.now limit.range

    later : List Numbered
    later = filter has_id (numbered_from (number + 1) cs)

    those : List ℕ
    those = left_from limit (ids_start limit.object.now) seen (number + 1) cs

    held : Seen
    held = get_or seen number nothing_seen

    at_place : Bool → List ℕ
    at_place b = if b then c.child ∷ [] else []

    placed : (b : Bool) → those ≡ map place_of (filter left later) → (at_place b ++ []) ++ those ≡ map place_of (if b then n ∷ filter left later else filter left later)
    placed true rest = ap (λ ps. c.child ∷ ps) rest
    placed false rest = rest

    one : (o : Option Stamp) → c.recurrence_id ≡ o → those ≡ map place_of (filter left later) → left_at limit (ids_start limit.object.now) held c ++ those ≡ map place_of (filter left (if is_some c.recurrence_id then n ∷ later else later))
    one None none rest =
        ap (λ o. flat_map (λ name. at_place (goes limit (ids_start limit.object.now) name held)) (option_to_list o) ++ those) none ∙ rest
        ∙ sym (ap (λ o. map place_of (filter left (if is_some o then n ∷ later else later))) none)
    one (Some name) is rest =
        ap (λ o. flat_map (λ name. at_place (goes limit (ids_start limit.object.now) name held)) (option_to_list o) ++ those) is
        ∙ ap (λ b. (at_place b ++ []) ++ those) (ap (goes limit (ids_start limit.object.now) name) (known number (omega (arith, within))) ∙ sym (goes-same limit rows n name is))
        ∙ placed (left n) rest
        ∙ sym (ap (λ o. map place_of (filter left (if is_some o then n ∷ later else later))) is)

pub places-same : (limit : Limit) (rows : List Row) (seen : List Seen) (ids : Option Stamp) (k : ℕ) → ids ≡ ids_start limit.object.now → ((j : ℕ) → j < length limit.object.now.components → get_or seen j nothing_seen ≡ seen_by limit rows j)
    → is_place k (left_from limit ids seen 0 limit.object.now.components) ≡ is_place k (left_out limit.object.now rows limit.zone.now limit.range)
places-same limit rows seen ids k e known =
    ap (λ o. is_place k (left_from limit o seen 0 limit.object.now.components)) e
    ∙ ap (is_place k) (left-same limit rows seen (length limit.object.now.components) 0 limit.object.now.components known (omega arith))

-- The components that stay

pub left_nodes-same : (gone : List Bool) (left : List ℕ) (size place : ℕ) (nodes : List Node) → ((k : ℕ) → k < size → get_or gone k false ≡ is_place k left) → place + length nodes ≤ size
    → left_nodes gone place nodes ≡ map (λ (child : ℕ × Node). child.1) (filter (λ (child : ℕ × Node). not (list_any (λ p. p == child.0) left)) (enumerate_from place nodes))
left_nodes-same gone left size place [] known within = refl
left_nodes-same gone left size place (node ∷ nodes) known within =
    ap (λ b. (if b then [] else node ∷ []) ++ left_nodes gone (place + 1) nodes) (known place (omega (arith, within))) ∙ next (is_place place left) (left_nodes-same gone left size (place + 1) nodes known (omega (arith, within)))
  where
    stays : ℕ × Node → Bool
    stays child = not (list_any (λ p. p == child.0) left)

    those : List (ℕ × Node)
    those = filter stays (enumerate_from (place + 1) nodes)

    next : (b : Bool) → left_nodes gone (place + 1) nodes ≡ map (λ (child : ℕ × Node). child.1) those → (if b then [] else node ∷ []) ++ left_nodes gone (place + 1) nodes ≡ map (λ (child : ℕ × Node). child.1) (if not b then (place, node) ∷ those else those)
    next true rest = rest
    next false rest = ap (λ ns. node ∷ ns) rest

-- Original instances of one master

originals-of : (limit : Limit) (s name : Stamp) (seen : Option ℤ)
    → originals limit (Some s) name seen ≡ (map (original_row limit.object.now s (unwrap_or seen (named_id limit.object.now.zones s name))) (masters limit.object.now) ++ []) ++ []
originals-of limit s name (Some id) = refl
originals-of limit s name None = refl

pub originals-none : (limit : Limit) (s name : Stamp) (seen : Option ℤ) → masters limit.object.now ≡ [] → list_any (meets limit) (originals limit (Some s) name seen) ≡ false
originals-none limit s name seen none =
    ap (list_any (meets limit)) (originals-of limit s name seen)
    ∙ ap (λ (ms : List Numbered). list_any (meets limit) ((map (original_row limit.object.now s (unwrap_or seen (named_id limit.object.now.zones s name))) ms ++ []) ++ [])) none

empty_rest : (n : Numbered) (rest : List Numbered) → length (n ∷ rest) ≤ 1 → rest ≡ []
empty_rest n [] few = refl
empty_rest n (m ∷ rest) few = absurd (omega (arith, few))

pub originals-one : (limit : Limit) (s name : Stamp) (seen : Option ℤ) (n : Numbered) (rest : List Numbered) → length (masters limit.object.now) ≤ 1 → masters limit.object.now ≡ n ∷ rest
    → list_any (meets limit) (originals limit (Some s) name seen) ≡ meets limit (original_row limit.object.now s (unwrap_or seen (named_id limit.object.now.zones s name)) n)
originals-one limit s name seen n rest few is =
    let row = original_row limit.object.now s (unwrap_or seen (named_id limit.object.now.zones s name)) in
    ap (list_any (meets limit)) (originals-of limit s name seen)
    ∙ ap (λ (ms : List Numbered). list_any (meets limit) ((map row ms ++ []) ++ [])) (is ∙ ap (λ ms. n ∷ ms) (empty_rest n rest (subst (λ ms. length ms ≤ 1) is few)))
    ∙ sym (or_none (meets limit (row n)))

-- The ids that are seen

id_with-moment : (row : Row) (o : Option ℤ) → IsShownRow row → All IsCalendarMoment (option_to_list o) → All IsCalendarMoment (option_to_list (id_with row o))
id_with-moment row (Some id) shown all = all
id_with-moment row None shown all = next (is_dated row)
  where
    next : (b : Bool) → All IsCalendarMoment (option_to_list (if b then Some row.id else None))
    next true = All-cons IsCalendarMoment row.id [] shown.id (All-nil IsCalendarMoment)
    next false = All-nil IsCalendarMoment

more_moment : (limit : Limit) (number : ℕ) (row : Row) (seen : Seen) → IsShownRow row → All IsCalendarMoment (option_to_list seen.id) → All IsCalendarMoment (option_to_list (seen_more limit number row seen).id)
more_moment limit number row seen shown all = next (row.component == number)
  where
    next : (b : Bool) → All IsCalendarMoment (option_to_list (if b then seen_row limit row seen else seen).id)
    next true = id_with-moment row seen.id shown all
    next false = all

pub seen-moment : (limit : Limit) (number : ℕ) (rows : List Row) (seen : Seen) → All IsShownRow rows → All IsCalendarMoment (option_to_list seen.id) → All IsCalendarMoment (option_to_list (seen_over limit number rows seen).id)
seen-moment limit number [] seen shown all = all
seen-moment limit number (row ∷ rows) seen shown all =
    seen-moment limit number rows (seen_more limit number row seen) (All-tail IsShownRow row rows shown) (more_moment limit number row seen (All-head IsShownRow row rows shown) all)

-- The stamp of the ids

pub ids_there : (zones : ℕ) (object : Object) → All (HasConvertibleRow zones) object.components → All (IsConvertible zones) (option_to_list (ids_start object))
ids_there zones object all = at_hand (ids_start object) refl
  where
    at_hand : (o : Option Stamp) → ids_start object ≡ o → All (IsConvertible zones) (option_to_list o)
    at_hand None is = All-nil (IsConvertible zones)
    at_hand (Some s) is = All-cons (IsConvertible zones) s [] (ids_convertible zones object s all (sym is)) (All-nil (IsConvertible zones))

-- The master

pub master-known : (object : Object) (P : Component → Type 0) (n : Numbered) (rest : List Numbered) → All P object.components → masters object ≡ n ∷ rest → P n.component
master-known object P n rest all is =
    All-head (λ (m : Numbered). P m.component) n rest (subst (All (λ (m : Numbered). P m.component)) is
    (All-filter (λ m. not (has_id m)) (λ (m : Numbered). P m.component) (numbered object)
    (All-numbered_from (λ (m : Numbered). P m.component) 0 object.components (λ i j c e found. All-slice_get P object.components i c all found))))

is_at : (object : Object) → All (λ (m : Numbered). slice_get object.components m.number ≡ Some m.component) (numbered object)
is_at object = All-numbered_from (λ (m : Numbered). slice_get object.components m.number ≡ Some m.component) 0 object.components (λ i j c e found. let here : j ≡ i = omega (arith, e) in rw here found)

master_at : (object : Object) (n : Numbered) (rest : List Numbered) → masters object ≡ n ∷ rest → slice_get object.components n.number ≡ Some n.component
master_at object n rest is =
    All-head (λ (m : Numbered). slice_get object.components m.number ≡ Some m.component) n rest (subst (All (λ (m : Numbered). slice_get object.components m.number ≡ Some m.component)) is
    (All-filter (λ m. not (has_id m)) (λ (m : Numbered). slice_get object.components m.number ≡ Some m.component) (numbered object) (is_at object)))

-- the component of the master's number
pub master-is : (object : Object) (number : ℕ) (c : Component) → IsMaster object (Some number) → slice_get object.components number ≡ Some c → (rest : List Numbered) × (masters object ≡ record { number = number; component = c } ∷ rest)
master-is object number c master there =
    let n = master.0 in
    let same : n.number ≡ number = master.3 in
    let seen_at : slice_get object.components number ≡ Some n.component = ap (slice_get object.components) (sym same) ∙ master_at object n master.1 master.2 in
    let component : n.component ≡ c = same_Some n.component c (sym seen_at ∙ there) in
    (master.1, master.2 ∙ ap₂ (λ (k : ℕ) (d : Component). record { number = k; component = d } ∷ master.1) same component)

pub master-there : (object : Object) (number : ℕ) → IsMaster object (Some number) → slice_get object.components number ≡ None → ⊥
master-there object number master lost =
    let n = master.0 in
    let seen_at : slice_get object.components number ≡ Some n.component = ap (slice_get object.components) (sym master.3) ∙ master_at object n master.1 master.2 in
    none-some n.component (sym lost ∙ seen_at)
