-- The steps in which the place of a logical line is found.
use Rattle.std.proofs.Common.{◌≡◌, ℕ, zero, suc, Bool, true, false, cond, ◌||◌, nat_lt, List, [], ◌∷◌, ◌++◌, get_or, length, drop, flat_map, filter, refl, sym, ap, ◌∙◌, ◌-◌, append-nil, arith, le-leb, map, filter_map, Option, Some, None, slice_get}
use Rattle.std.proofs.lemmas.Bool.{cond-true, cond-false}
use Rattle.cal_base.specs.Texts.Octets.{line_feed}
use Rattle.std.specs.Option.{option_map, option_map_or}
use Rattle.std.specs.List.{cons_option}
use Rattle.cal_base.specs.declared.line.Line.{Line}
use Rattle.cal_base.specs.Lines.ContentLines.{Physical, Placed, pieces, physical_from, physical_lines, logical_lines, begins_with_blank, continues, joined, groups, unfolded, place_of, lesser, least, is_refused, is_outside_grammar, placed_line, placed_lines, line_of, line_fault}
use Rattle.ical_lines.specs.GroupReading.{place_among, place_text, have_text, place_open}
use Rattle.ical_lines.proofs.PhysicalLines.{continues-physical}

abbrev lines_at : ℕ → List ℕ → List Physical
lines_at place octets = physical_from place (pieces line_feed octets)

abbrev line_at : ℕ → List ℕ → Physical
line_at place text = record { place = place; text = text }

abbrev has_octet : List ℕ → Bool
has_octet text = nat_lt 0 (length text)

some_octet : (n : ℕ) → nat_lt 0 (suc n) ≡ true
some_octet n = le-leb 1 (suc n) (omega arith)

two_octets : (n : ℕ) → nat_lt 1 (suc (suc n)) ≡ true
two_octets n = le-leb 2 (suc (suc n)) (omega arith)

has_octet-append : (xs ys : List ℕ) → has_octet (xs ++ ys) ≡ (has_octet xs || has_octet ys)
has_octet-append [] ys = refl
has_octet-append (x ∷ xs) ys = some_octet (length (xs ++ ys)) ∙ ap (λ has. has || has_octet ys) (sym (some_octet (length xs)))

or_none : (b : Bool) → (b || false) ≡ b
or_none true = refl
or_none false = refl

or_assoc : (a b c : Bool) → ((a || b) || c) ≡ (a || (b || c))
or_assoc true b c = refl
or_assoc false b c = refl

pub has_octet-drop : (text : List ℕ) → has_octet (drop 1 text) ≡ nat_lt 1 (length text)
has_octet-drop [] = refl
has_octet-drop (x ∷ []) = refl
has_octet-drop (x ∷ y ∷ text) = some_octet (length text) ∙ sym (two_octets (length text))

-- the next logical line
pub text_at_group : (number : ℕ) (group : List Physical) (others : List (List Physical)) → place_among number (group ∷ others) ≡ place_text number (place_of group) (has_octet (unfolded group)) others
text_at_group zero group others = refl
text_at_group (suc number) group others = refl

first_joined : (test : Bool) (number : ℕ) (physical : Physical) (group : List Physical) (others : List (List Physical)) → place_among number (cond test ((physical ∷ group) ∷ others) ((physical ∷ []) ∷ group ∷ others)) ≡ cond test (place_text number physical.place (has_octet physical.text || have_text group) others) (place_text number physical.place (has_octet physical.text) (group ∷ others))
first_joined true number physical group others = text_at_group number (physical ∷ group) others ∙ ap (λ has. place_text number physical.place has others) (has_octet-append physical.text (flat_map (λ (fold : Physical). drop 1 fold.text) group))
first_joined false number physical group others = text_at_group number (physical ∷ []) (group ∷ others) ∙ ap (λ text. place_text number physical.place (has_octet text) (group ∷ others)) (append-nil physical.text)

open_at_first : (number : ℕ) (physical : Physical) (more : List Physical) → place_among number (groups (physical ∷ more)) ≡ place_open number physical.place (has_octet physical.text) (groups more)
open_at_first number physical more = with_groups (groups more)
  where
    with_groups : (them : List (List Physical)) → place_among number (joined physical them) ≡ place_open number physical.place (has_octet physical.text) them
    with_groups [] = text_at_group number (physical ∷ []) [] ∙ ap (λ text. place_text number physical.place (has_octet text) []) (append-nil physical.text)
    with_groups (group ∷ others) = first_joined (continues group) number physical group others

fold_taken : (number place : ℕ) (has : Bool) (fold : Physical) (group : List Physical) (others : List (List Physical)) → begins_with_blank fold.text ≡ true → place_open number place has ((fold ∷ group) ∷ others) ≡ place_text number place (has || (has_octet (drop 1 fold.text) || have_text group)) others
fold_taken number place has fold group others blank =
    cond-true _ _ _ blank ∙ ap (λ more. place_text number place (has || more) others) (has_octet-append (drop 1 fold.text) (flat_map (λ (fold : Physical). drop 1 fold.text) group))

fold_joined : (test : Bool) (number place : ℕ) (has : Bool) (fold : Physical) (group : List Physical) (others : List (List Physical)) → begins_with_blank fold.text ≡ true → place_open number place has (cond test ((fold ∷ group) ∷ others) ((fold ∷ []) ∷ group ∷ others)) ≡ cond test (place_text number place ((has || has_octet (drop 1 fold.text)) || have_text group) others) (place_text number place (has || has_octet (drop 1 fold.text)) (group ∷ others))
fold_joined true number place has fold group others blank =
    fold_taken number place has fold group others blank ∙ ap (λ them. place_text number place them others) (sym (or_assoc has (has_octet (drop 1 fold.text)) (have_text group)))
fold_joined false number place has fold group others blank =
    fold_taken number place has fold [] (group ∷ others) blank ∙ ap (λ them. place_text number place (has || them) (group ∷ others)) (or_none (has_octet (drop 1 fold.text)))

open_at_fold : (number place : ℕ) (has : Bool) (fold : Physical) (more : List Physical) → begins_with_blank fold.text ≡ true → place_open number place has (groups (fold ∷ more)) ≡ place_open number place (has || has_octet (drop 1 fold.text)) (groups more)
open_at_fold number place has fold more blank = with_groups (groups more)
  where
    with_groups : (them : List (List Physical)) → place_open number place has (joined fold them) ≡ place_open number place (has || has_octet (drop 1 fold.text)) them
    with_groups [] = fold_taken number place has fold [] [] blank ∙ ap (λ them. place_text number place (has || them) []) (or_none (has_octet (drop 1 fold.text)))
    with_groups (group ∷ others) = fold_joined (continues group) number place has fold group others blank

end_joined : (test : Bool) (number place : ℕ) (has : Bool) (physical : Physical) (group : List Physical) (others : List (List Physical)) → begins_with_blank physical.text ≡ false → place_open number place has (cond test ((physical ∷ group) ∷ others) ((physical ∷ []) ∷ group ∷ others)) ≡ place_text number place has (cond test ((physical ∷ group) ∷ others) ((physical ∷ []) ∷ group ∷ others))
end_joined true number place has physical group others end = cond-false _ _ _ end
end_joined false number place has physical group others end = cond-false _ _ _ end

open_at_end : (number place : ℕ) (has : Bool) (more : List Physical) → continues more ≡ false → place_open number place has (groups more) ≡ place_text number place has (groups more)
open_at_end number place has [] end = refl
open_at_end number place has (physical ∷ more) end = with_groups (groups more)
  where
    with_groups : (them : List (List Physical)) → place_open number place has (joined physical them) ≡ place_text number place has (joined physical them)
    with_groups [] = cond-false _ _ _ end
    with_groups (group ∷ others) = end_joined (continues group) number place has physical group others end

pub start_step : (number place next : ℕ) (octets text behind : List ℕ) (has : Bool) → lines_at place octets ≡ line_at place text ∷ lines_at next behind → has ≡ has_octet text → place_among number (groups (lines_at place octets)) ≡ place_open number place has (groups (lines_at next behind))
start_step number place next octets text behind has line same = rw (same, line) (open_at_first number (line_at place text) (lines_at next behind))

pub fold_step : (whole number place at next : ℕ) (rest text behind : List ℕ) (has later : Bool) → whole ≡ place_open number place has (groups (lines_at at rest)) → lines_at at rest ≡ line_at at text ∷ lines_at next behind → begins_with_blank rest ≡ true → later ≡ (has || nat_lt 1 (length text)) → whole ≡ place_open number place later (groups (lines_at next behind))
fold_step whole number place at next rest text behind has later known line blank same =
    let fold : begins_with_blank text ≡ true = ap continues (sym line) ∙ continues-physical rest at ∙ blank in
    let longer : later ≡ (has || has_octet (drop 1 text)) = same ∙ ap (λ more. has || more) (sym (has_octet-drop text)) in
    rw (longer) (known ∙ ap (λ them. place_open number place has (groups them)) line ∙ open_at_fold number place has (line_at at text) (lines_at next behind) fold)

pub end_step : (whole number place at : ℕ) (rest : List ℕ) (has : Bool) → whole ≡ place_open number place has (groups (lines_at at rest)) → begins_with_blank rest ≡ false → whole ≡ place_text number place has (groups (lines_at at rest))
end_step whole number place at rest has known end = known ∙ open_at_end number place has (lines_at at rest) (continues-physical rest at ∙ end)

first_filtered : (b : Bool) (group : List Physical) (others texts : List (List Physical)) → place_among zero others ≡ place_of (get_or texts zero []) → cond b (place_of group) (place_among zero others) ≡ place_of (get_or (cond b (group ∷ texts) texts) zero [])
first_filtered true group others texts more = refl
first_filtered false group others texts more = more

later_filtered : (b : Bool) (number : ℕ) (group : List Physical) (others texts : List (List Physical)) → place_among number others ≡ place_of (get_or texts number []) → place_among (suc number) others ≡ place_of (get_or texts (suc number) []) → cond b (place_among number others) (place_among (suc number) others) ≡ place_of (get_or (cond b (group ∷ texts) texts) (suc number) [])
later_filtered true number group others texts fewer same = fewer
later_filtered false number group others texts fewer same = same

-- the place among all groups is that among those that have a text
pub place_among-filter : (number : ℕ) (them : List (List Physical)) → place_among number them ≡ place_of (get_or (filter (λ group. has_octet (unfolded group)) them) number [])
place_among-filter zero [] = refl
place_among-filter (suc number) [] = refl
place_among-filter zero (group ∷ others) = first_filtered (has_octet (unfolded group)) group others (filter (λ other. has_octet (unfolded other)) others) (place_among-filter zero others)
place_among-filter (suc number) (group ∷ others) = later_filtered (has_octet (unfolded group)) number group others (filter (λ other. has_octet (unfolded other)) others) (place_among-filter number others) (place_among-filter (suc number) others)

-- a logical line that has a text, where none is to be passed over
pub found_step : (whole left place : ℕ) (has : Bool) (others : List (List Physical)) → whole ≡ place_text left place has others → has ≡ true → left ≡ 0 → whole ≡ place
found_step whole zero place has others known there none = known ∙ cond-true _ _ _ there
found_step whole (suc left) place has others known there none = absurd (omega arith)

pub place_among-nil : (number : ℕ) → place_among number [] ≡ 0
place_among-nil zero = refl
place_among-nil (suc number) = refl

-- Where no line has a fault, the lines are those of the logical lines

lesser_some : (n : ℕ) (o : Option ℕ) → lesser n o ≡ None → ⊥
lesser_some n None is = cc
lesser_some n (Some m) is = cc

least_nil : (ns : List ℕ) → least ns ≡ None → ns ≡ []
least_nil [] is = refl
least_nil (n ∷ ns) is = absurd (lesser_some n (least ns) is)

append_nil : {X : Type 0} (xs ys : List X) → xs ++ ys ≡ [] → ys ≡ []
append_nil [] ys is = is
append_nil (x ∷ xs) ys is = absurd (cc)

map_nil : {X Y : Type 0} (f : X → Y) (xs : List X) → map f xs ≡ [] → xs ≡ []
map_nil f [] is = refl
map_nil f (x ∷ xs) is = absurd (cc)

abbrev outside : Option Line → Bool
outside o = elim o [ None ↦ true | Some line ↦ false ]

abbrev place_from : List Placed → ℕ → ℕ
place_from placed number = option_map_or {T = Placed} {U = ℕ} (λ line. line.place) (slice_get placed number) 0

one_placed : (o : Option Line) (group : List Physical) (others rest : List (List Physical)) (placed : List Placed) → cond (outside o) (group ∷ rest) rest ≡ [] →
    (rest ≡ [] → (number : ℕ) → place_of (get_or others number []) ≡ place_from placed number) →
    (number : ℕ) → place_of (get_or (group ∷ others) number []) ≡ place_from (cons_option (option_map (λ line. record { place = place_of group; line = line }) o) placed) number
one_placed None group others rest placed is more number = absurd (cc)
one_placed (Some line) group others rest placed is more zero = refl
one_placed (Some line) group others rest placed is more (suc number) = more is number

all_placed : (them : List (List Physical)) → filter is_outside_grammar them ≡ [] → (number : ℕ) → place_of (get_or them number []) ≡ place_from (filter_map placed_line them) number
all_placed [] is number = refl
all_placed (group ∷ others) is number = one_placed (line_of (unfolded group)) group others (filter is_outside_grammar others) (filter_map placed_line others) is (all_placed others) number

pub place_placed : (octets : List ℕ) (number : ℕ) → line_fault octets ≡ None → place_of (get_or (logical_lines octets) number []) ≡ place_from (placed_lines octets) number
place_placed octets number whole =
    let refused = map (λ (physical : Physical). physical.place) (filter is_refused (physical_lines octets)) in
    let places = map place_of (filter is_outside_grammar (logical_lines octets)) in
    all_placed (logical_lines octets) (map_nil place_of (filter is_outside_grammar (logical_lines octets)) (append_nil refused places (least_nil (refused ++ places) whole))) number
