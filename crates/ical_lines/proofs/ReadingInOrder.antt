-- The reading of a text by its logical lines, one after another, is the reading of the whole text: places rise, so the first
-- fault that is met is the least.
use Rattle.std.proofs.Common.{◌≡◌, ℕ, ◌+◌, ◌≤◌, Bool, true, false, cond, ◌&&◌, nat_lt, leb, ◌==◌, List, [], ◌∷◌, ◌++◌, map, length, filter, filter_map, Option, Some, None, Result, Ok, Err, refl, sym, ap, ap₂, subst, ◌∙◌, ⊎_elim, arith, append-nil, append_assoc, le-leb, leb-true, le_refl, ◌⊎◌, inl, inr}
use Rattle.std.specs.List.{AllByRecursion, cons_option}
use Rattle.std.specs.Option.{option_or, option_to_list, option_map}
use Rattle.std.proofs.lemmas.Bool.{cond-true, cond-false, cond_both, cases_Bool, and_parts}
use Rattle.cal_base.specs.declared.line.Line.{Line}
use Rattle.cal_base.specs.Texts.Octets.{line_feed}
use Rattle.cal_base.specs.Lines.ContentLines.{pieces, Physical, physical_from, physical_lines, continues, joined, groups, unfolded, place_of, lesser, least, is_refused, is_outside_grammar, line_of, Placed, placed_line, read_lines}
use Rattle.ical_lines.specs.GroupReading.{first_refused, is_no_line, text_lines, read_groups}
use Rattle.ical_lines.proofs.LineTexts.{read_as}
use Rattle.ical_lines.proofs.Pieces.{all_append}

-- The least of some places

abbrev AtLeast : ℕ → List ℕ → Type 0
AtLeast n places = AllByRecursion (λ place. n ≤ place) places

lesser_bound : (n x m : ℕ) (o : Option ℕ) → n ≤ x → ((k : ℕ) → o ≡ Some k → n ≤ k) → lesser x o ≡ Some m → n ≤ m
lesser_bound n x m None low others is = let same : x ≡ m = cc in omega arith
lesser_bound n x m (Some k) low others is =
    let same : cond (leb x k) x k ≡ m = cc in
    let bound = others k refl in
    subst (λ v. n ≤ v) same (cond_both (leb x k) x k (λ v. n ≤ v) (λ _. low) (λ _. bound))

least_bound : (n m : ℕ) (places : List ℕ) → AtLeast n places → least places ≡ Some m → n ≤ m
least_bound n m [] low is = absurd (cc)
least_bound n m (place ∷ places) low is = lesser_bound n place m (least places) low.0 (λ k there. least_bound n k places low.1 there) is

lesser_least : (n : ℕ) (o : Option ℕ) → ((k : ℕ) → o ≡ Some k → n ≤ k) → lesser n o ≡ Some n
lesser_least n None others = refl
lesser_least n (Some k) others = ap Some (cond-true _ _ _ (le-leb n k (others k refl)))

least_first : (n : ℕ) (places : List ℕ) → AtLeast n places → least (n ∷ places) ≡ Some n
least_first n places low = lesser_least n (least places) (λ k is. least_bound n k places low is)

least_at : (n : ℕ) (front back : List ℕ) → AtLeast n front → AtLeast n back → least (front ++ n ∷ back) ≡ Some n
least_at n [] back low low_back = least_first n back low_back
least_at n (place ∷ front) back low low_back =
    let bound = low.0 in
    ap (lesser place) (least_at n front back low.1 low_back)
    ∙ ap Some (cond_both (leb place n) place n (λ v. v ≡ n) (λ (is : leb place n ≡ true). let below = leb-true place n is in omega arith) (λ _. refl))

-- The places of physical lines rise

abbrev AtLeastPlace : ℕ → List Physical → Type 0
AtLeastPlace n them = AllByRecursion (λ (physical : Physical). n ≤ physical.place) them

abbrev AreInOrder : List Physical → Type 0
AreInOrder [] = Unit {0}
AreInOrder (physical ∷ more) = AtLeastPlace physical.place more × AreInOrder more

physical_from-at_least : (n place : ℕ) (them : List (List ℕ)) → n ≤ place → AtLeastPlace n (physical_from place them)
physical_from-at_least n place [] low = tt
physical_from-at_least n place (last ∷ []) low = cond_both (length last == 0) _ _ (AtLeastPlace n) (λ _. tt) (λ _. (low, tt))
physical_from-at_least n place (piece ∷ next ∷ more) low = (low, physical_from-at_least n (place + length piece + 1) (next ∷ more) (omega arith))

physical_from-in_order : (place : ℕ) (them : List (List ℕ)) → AreInOrder (physical_from place them)
physical_from-in_order place [] = tt
physical_from-in_order place (last ∷ []) = cond_both (length last == 0) _ _ AreInOrder (λ _. tt) (λ _. (tt, tt))
physical_from-in_order place (piece ∷ next ∷ more) =
    (physical_from-at_least place (place + length piece + 1) (next ∷ more) (omega arith), physical_from-in_order (place + length piece + 1) (next ∷ more))

all_behind : (P : Physical → Type 0) (front back : List Physical) → AllByRecursion P (front ++ back) → AllByRecursion P back
all_behind P [] back all = all
all_behind P (physical ∷ front) back all = all_behind P front back all.1

order_behind : (front back : List Physical) → AreInOrder (front ++ back) → AreInOrder back
order_behind [] back order = order
order_behind (physical ∷ front) back order = order_behind front back order.1

-- The physical lines of all logical lines

abbrev flattened : List (List Physical) → List Physical
flattened [] = []
flattened (group ∷ them) = group ++ flattened them

flattened-joined : (physical : Physical) (them : List (List Physical)) → flattened (joined physical them) ≡ physical ∷ flattened them
flattened-joined physical [] = refl
flattened-joined physical (group ∷ them) = cond_both (continues group) _ _ (λ those. flattened those ≡ physical ∷ flattened (group ∷ them)) (λ _. refl) (λ _. refl)

flattened-groups : (them : List Physical) → flattened (groups them) ≡ them
flattened-groups [] = refl
flattened-groups (physical ∷ more) = flattened-joined physical (groups more) ∙ ap (λ rest. physical ∷ rest) (flattened-groups more)

-- The places of faults

abbrev refused_places : List Physical → List ℕ
refused_places them = map (λ (physical : Physical). physical.place) (filter is_refused them)

abbrev is_some_text : List Physical → Bool
is_some_text group = nat_lt 0 (length (unfolded group))

abbrev outside_places : List (List Physical) → List ℕ
outside_places them = map place_of (filter is_outside_grammar (filter is_some_text them))

abbrev lines_in : List (List Physical) → List Line
lines_in them = map (λ (placed : Placed). placed.line) (filter_map placed_line (filter is_some_text them))

refused_places-at_least : (n : ℕ) (them : List Physical) → AtLeastPlace n them → AtLeast n (refused_places them)
refused_places-at_least n [] low = tt
refused_places-at_least n (physical ∷ more) low =
    let behind = refused_places-at_least n more low.1 in
    cond_both (is_refused physical) _ _ (λ kept. AtLeast n (map (λ (p : Physical). p.place) kept)) (λ _. (low.0, behind)) (λ _. behind)

outside_places-at_least : (n : ℕ) (them : List (List Physical)) → AtLeastPlace n (flattened them) → AtLeast n (outside_places them)
outside_places-at_least n [] low = tt
outside_places-at_least n ([] ∷ them) low = outside_places-at_least n them low
outside_places-at_least n ((physical ∷ folds) ∷ them) low =
    let behind = outside_places-at_least n them (all_behind _ folds (flattened them) low.1) in
    cond_both (is_some_text (physical ∷ folds)) _ _ (λ kept. AtLeast n (map place_of (filter is_outside_grammar kept)))
    (λ _. cond_both (is_outside_grammar (physical ∷ folds)) _ _ (λ kept. AtLeast n (map place_of kept)) (λ _. (low.0, behind)) (λ _. behind))
    (λ _. behind)

-- The step over one logical line

outside_step : (group : List Physical) (them : List (List Physical)) → (is_some_text group && is_no_line (unfolded group)) ≡ false → outside_places (group ∷ them) ≡ outside_places them
outside_step group them good =
    ⊎_elim
    (λ (some : is_some_text group ≡ true). ap (λ kept. map place_of (filter is_outside_grammar kept)) (cond-true _ _ _ some)
    ∙ ap (map place_of) (cond-false _ _ _ (ap (λ test. test && is_no_line (unfolded group)) (sym some) ∙ good)))
    (λ (none : is_some_text group ≡ false). ap (λ kept. map place_of (filter is_outside_grammar kept)) (cond-false _ _ _ none))
    (cases_Bool (is_some_text group))

outside_here : (group : List Physical) (them : List (List Physical)) → is_some_text group ≡ true → is_no_line (unfolded group) ≡ true → outside_places (group ∷ them) ≡ place_of group ∷ outside_places them
outside_here group them some outside =
    ap (λ kept. map place_of (filter is_outside_grammar kept)) (cond-true _ _ _ some) ∙ ap (map place_of) (cond-true _ _ _ outside)

cons_line : (place : ℕ) (o : Option Line) (placed : List Placed) → map (λ (p : Placed). p.line) (cons_option (option_map (λ line. record { place = place; line = line }) o) placed) ≡ option_to_list o ++ map (λ (p : Placed). p.line) placed
cons_line place None placed = refl
cons_line place (Some line) placed = refl

lines_kept : (test : Bool) (group : List Physical) (kept : List (List Physical)) → map (λ (p : Placed). p.line) (filter_map placed_line (cond test (group ∷ kept) kept)) ≡ cond test (option_to_list (line_of (unfolded group))) [] ++ map (λ (p : Placed). p.line) (filter_map placed_line kept)
lines_kept true group kept = cons_line (place_of group) (line_of (unfolded group)) (filter_map placed_line kept)
lines_kept false group kept = refl

lines_step : (group : List Physical) (them : List (List Physical)) → lines_in (group ∷ them) ≡ text_lines (unfolded group) ++ lines_in them
lines_step group them = lines_kept (is_some_text group) group (filter is_some_text them)

none_refused : (test : Bool) (place : ℕ) (later : Option ℕ) → option_or (cond test (Some place) None) later ≡ None → (test ≡ false) × (later ≡ None)
none_refused true place later is = absurd (cc)
none_refused false place later is = (refl, is)

one_refused : (test : Bool) (place first : ℕ) (later : Option ℕ) → option_or (cond test (Some place) None) later ≡ Some first → ((test ≡ true) × (place ≡ first)) ⊎ ((test ≡ false) × (later ≡ Some first))
one_refused true place first later is = inl (refl, cc)
one_refused false place first later is = inr (refl, is)

refused_none : (group behind : List Physical) → first_refused group ≡ None → refused_places (group ++ behind) ≡ refused_places behind
refused_none [] behind none = refl
refused_none (physical ∷ group) behind none =
    let parts = none_refused (is_refused physical) physical.place (first_refused group) none in
    ap (map (λ (p : Physical). p.place)) (cond-false _ _ _ parts.0) ∙ refused_none group behind parts.1

-- a first place of refused physical lines, and those behind it
abbrev BeginsAt : ℕ → List ℕ → Type 0
BeginsAt place places = (others : List ℕ) × ((places ≡ place ∷ others) × AtLeast place others)

refused_first : (group behind : List Physical) (place : ℕ) → AreInOrder (group ++ behind) → first_refused group ≡ Some place → BeginsAt place (refused_places (group ++ behind)) × AtLeastPlace place behind
refused_first [] behind place order is = absurd (cc)
refused_first (physical ∷ group) behind place order is =
    ⊎_elim
    (λ (here : (is_refused physical ≡ true) × (physical.place ≡ place)).
    let others = refused_places (group ++ behind) in
    let here_first : refused_places (physical ∷ (group ++ behind)) ≡ place ∷ others = ap (map (λ (p : Physical). p.place)) (cond-true _ _ _ here.0) ∙ ap (λ n. n ∷ others) here.1 in (
      (others, (here_first, subst (λ n. AtLeast n others) here.1 (refused_places-at_least physical.place (group ++ behind) order.0))),
      subst (λ n. AtLeastPlace n behind) here.1 (all_behind _ group behind order.0),
    ))
    (λ (later : (is_refused physical ≡ false) × (first_refused group ≡ Some place)).
    let rest = refused_first group behind place order.1 later.1 in
    let skipped : refused_places (physical ∷ (group ++ behind)) ≡ refused_places (group ++ behind) = ap (map (λ (p : Physical). p.place)) (cond-false _ _ _ later.0) in
    ((rest.0.0, (skipped ∙ rest.0.1.0, rest.0.1.1)), rest.1))
    (one_refused (is_refused physical) physical.place place (first_refused group) is)

abbrev pub go_on : Option ℕ → Result (List Line) ℕ → Result (List Line) ℕ
go_on fault next = elim fault [ Some place ↦ Err place | None ↦ next ]

abbrev read_all : List (List Physical) → List Line → Result (List Line) ℕ
read_all them lines = read_as (least (refused_places (flattened them) ++ outside_places them)) lines

-- a logical line outside the grammar
at_outside : (group : List Physical) (them : List (List Physical)) (lines : List Line) → AreInOrder (group ++ flattened them) → is_some_text group ≡ true → is_no_line (unfolded group) ≡ true → read_all (group ∷ them) lines ≡ Err (place_of group)
at_outside [] them lines order some outside = absurd (cc)
at_outside (physical ∷ folds) them lines order some outside =
    let here = refused_places-at_least physical.place (physical ∷ (folds ++ flattened them)) (le_refl physical.place, order.0) in
    let later = outside_places-at_least physical.place them (all_behind _ folds (flattened them) order.0) in
    ap (λ places. read_as (least (refused_places (physical ∷ (folds ++ flattened them)) ++ places)) lines) (outside_here (physical ∷ folds) them some outside)
    ∙ ap (λ fault. read_as fault lines) (least_at physical.place (refused_places (physical ∷ (folds ++ flattened them))) (outside_places them) here later)

-- a logical line in the grammar that has a refused physical line
at_refused : (group : List Physical) (them : List (List Physical)) (lines : List Line) (place : ℕ) → AreInOrder (group ++ flattened them) → (is_some_text group && is_no_line (unfolded group)) ≡ false → first_refused group ≡ Some place → read_all (group ∷ them) lines ≡ Err place
at_refused group them lines place order good refused =
    let first = refused_first group (flattened them) place order refused in
    let later = outside_places-at_least place them first.1 in
    ap₂ (λ here outside. read_as (least (here ++ outside)) lines) first.0.1.0 (outside_step group them good)
    ∙ ap (λ fault. read_as fault lines) (least_first place (first.0.0 ++ outside_places them) (all_append _ first.0.0 _ first.0.1.1 later))

-- a logical line without a fault
at_good : (done : List Line) (group : List Physical) (them : List (List Physical)) → (is_some_text group && is_no_line (unfolded group)) ≡ false → first_refused group ≡ None → read_all (group ∷ them) (done ++ lines_in (group ∷ them)) ≡ read_all them (done ++ text_lines (unfolded group) ++ lines_in them)
at_good done group them good none =
    ap₂ (λ here outside. read_as (least (here ++ outside)) (done ++ lines_in (group ∷ them))) (refused_none group (flattened them) none) (outside_step group them good)
    ∙ ap (λ lines. read_all them lines) (ap (λ lines. done ++ lines) (lines_step group them) ∙ sym (append_assoc done (text_lines (unfolded group)) (lines_in them)))

step_on : (done : List Line) (group : List Physical) (them : List (List Physical)) (first : Option ℕ) → AreInOrder (group ++ flattened them) → (is_some_text group && is_no_line (unfolded group)) ≡ false → first_refused group ≡ first → read_all them (done ++ text_lines (unfolded group) ++ lines_in them) ≡ read_groups (done ++ text_lines (unfolded group)) them → read_all (group ∷ them) (done ++ lines_in (group ∷ them)) ≡ go_on first (read_groups (done ++ text_lines (unfolded group)) them)
step_on done group them None order good is behind = at_good done group them good is ∙ behind
step_on done group them (Some place) order good is behind = at_refused group them _ place order good is

in_order : (done : List Line) (them : List (List Physical)) → AreInOrder (flattened them) → read_all them (done ++ lines_in them) ≡ read_groups done them
in_order done [] order = ap Ok (append-nil done)
in_order done (group ∷ them) order =
    let next = read_groups (done ++ text_lines (unfolded group)) them in
    ⊎_elim
    (λ (fault : (is_some_text group && is_no_line (unfolded group)) ≡ true).
    let parts = and_parts (is_some_text group) _ fault in
    at_outside group them _ order parts.0 parts.1 ∙ sym (ap (λ first. go_on first next) (cond-true _ _ _ fault)))
    (λ (good : (is_some_text group && is_no_line (unfolded group)) ≡ false).
    step_on done group them (first_refused group) order good refl (in_order (done ++ text_lines (unfolded group)) them (order_behind group (flattened them) order))
    ∙ sym (ap (λ first. go_on first next) (cond-false _ _ _ good)))
    (cases_Bool (is_some_text group && is_no_line (unfolded group)))

-- the reading by logical lines is that of the whole
pub read_groups-all : (octets : List ℕ) → read_groups [] (groups (physical_lines octets)) ≡ read_lines octets
read_groups-all octets =
    let physical = physical_lines octets in
    let order = subst AreInOrder (sym (flattened-groups physical)) (physical_from-in_order 0 (pieces line_feed octets)) in
    sym (in_order [] (groups physical) order) ∙ ap (λ them. read_as (least (refused_places them ++ outside_places (groups physical))) (lines_in (groups physical))) (flattened-groups physical)
