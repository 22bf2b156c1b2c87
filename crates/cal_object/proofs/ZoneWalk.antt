-- The walk over the components of a calendar finds the first zone that cannot stand.
use Rattle.std.proofs.Common.{◌≡◌, ℕ, ◌+◌, ◌-◌, Bool, true, false, List, [], ◌∷◌, ◌++◌, length, map, take, refl, sym, ap, ap₂, ◌∙◌, subst, append_assoc, length-append, arith}
use Rattle.std.specs.Prelude.{◌&&◌, ◌||◌, nat_lt, if◌then◌else◌, find, get_or, sum, option_map, Some}
use Rattle.std.specs.List.{enumerate_from}
use Rattle.std.proofs.Math.Seq.{take-append_seam}
use Rattle.std.proofs.lemmas.Bool.{ltb-true, lt-ltb, ltb-false}
use Rattle.std.proofs.lemmas.List.{map-append}
use Rattle.std.proofs.lemmas.List.Sums.{sum_by-append}
use Rattle.cal_base.specs.declared.line.Node.{Node}
use Rattle.cal_base.specs.Lines.ContentLines.{Placed}
use Rattle.cal_model.specs.Recurrence.RecurrenceSet.{every_moment}
use Rattle.cal_model.specs.Objects.ComponentLines.{children_of}
use Rattle.cal_model.specs.Objects.ZoneFaults.{is_bad_zone as is_bad_among, zone_fault}
use Rattle.cal_model.specs.Objects.CalendarChildren.{Child, child_at, child_places, children_in, zones_among}
use Rattle.cal_model.specs.Objects.ZoneReading.{is_zone, has_zone_fault, are_too_many}
use Rattle.cal_model.proofs.Words.EachLemmas.{neither}
use Rattle.cal_object.specs.ZoneFaults.{zone_count, is_bad, first_bad}
use Rattle.cal_object.proofs.PropertyTable.{alike}

abbrev tree_of : Child → Node
tree_of child = child.tree

-- how much some zones count together
abbrev count_of : List Child → ℕ
count_of zones = sum (map zone_count (map tree_of zones))

count_more : (front : List Child) (child : Child) → count_of (front ++ child ∷ []) ≡ count_of front + (0 + zone_count child.tree)
count_more front child =
    ap (λ nodes. sum (map zone_count nodes)) (map-append tree_of front (child ∷ []))
    ∙ (ap sum (map-append zone_count (map tree_of front) (child.tree ∷ []))
    ∙ sum_by-append (λ n. n) (map zone_count (map tree_of front)) (zone_count child.tree ∷ []))

taken : (front rest : List Child) (child : Child) → take (length front + 1) (front ++ child ∷ rest) ≡ front ++ child ∷ []
taken front rest child =
    ap₂ take (sym (length-append front (child ∷ []))) (sym (append_assoc front (child ∷ []) rest)) ∙ take-append_seam (front ++ child ∷ []) rest

too_many : (before count room : ℕ) → before + room ≡ 50_000 → nat_lt 50_000 (before + (0 + count)) ≡ nat_lt room count
too_many before count room left =
    alike (nat_lt 50_000 (before + (0 + count))) (nat_lt room count)
    (λ many. let lt = ltb-true 50_000 (before + (0 + count)) many in lt-ltb room count (omega (arith, lt, left)))
    (λ many. let lt = ltb-true room count many in lt-ltb 50_000 (before + (0 + count)) (omega (arith, lt, left)))

-- a zone behind others
bad_is : (front rest : List Child) (child : Child) (room : ℕ) → count_of front + room ≡ 50_000 →
    is_bad_among every_moment (front ++ child ∷ rest) (length front, child) ≡ is_bad room child.tree
bad_is front rest child room left =
    ap (λ b. has_zone_fault child.tree || b)
    (ap (λ zones. are_too_many every_moment (map tree_of zones)) (taken front rest child)
    ∙ (ap (nat_lt 50_000) (count_more front child) ∙ too_many (count_of front) (zone_count child.tree) room left))

-- the zones among the components from a number on
abbrev zones_from : List ℕ → ℕ → List Node → List Child
zones_from places number nodes = zones_among (map (child_at places) (enumerate_from number nodes))

-- what the search finds among all zones, and the walk among the components to come
abbrev Finds : List ℕ → List Child → List Child → ℕ → ℕ → List Node → Type 0
Finds places all front number room nodes =
    option_map (λ (found : ℕ × Child). found.1.place) (find (is_bad_among every_moment all) (enumerate_from (length front) (zones_from places number nodes)))
    ≡ option_map (λ child. get_or places child 0) (first_bad number room nodes)

abbrev the_child : List ℕ → ℕ → Node → Child
the_child places number node = record { place = get_or places number 0; number = number; tree = node }

-- a component that is a zone, by whether it can stand
by_test : (places : List ℕ) (nodes : List Node) (all front : List Child) (number room : ℕ) (node : Node) (b : Bool) →
    (b ≡ false → Finds places all (front ++ the_child places number node ∷ []) (number + 1) (room - zone_count node) nodes) →
    option_map (λ (found : ℕ × Child). found.1.place) (if b then Some (length front, the_child places number node) else find (is_bad_among every_moment all) (enumerate_from (length front + 1) (zones_from places (number + 1) nodes)))
    ≡ option_map (λ one. get_or places one 0) (if b then Some number else first_bad (number + 1) (room - zone_count node) nodes)
by_test places nodes all front number room node true on = refl
by_test places nodes all front number room node false on =
    subst (λ n. option_map (λ (found : ℕ × Child). found.1.place) (find (is_bad_among every_moment all) (enumerate_from n (zones_from places (number + 1) nodes)))
    ≡ option_map (λ one. get_or places one 0) (first_bad (number + 1) (room - zone_count node) nodes))
    (length-append front (the_child places number node ∷ [])) (on refl)

-- by whether it is a zone
by_kind : (places : List ℕ) (nodes : List Node) (all front : List Child) (number room : ℕ) (node : Node) (b : Bool) →
    all ≡ front ++ (if b then the_child places number node ∷ zones_from places (number + 1) nodes else zones_from places (number + 1) nodes) → count_of front + room ≡ 50_000 →
    ((next : List Child) (left : ℕ) → all ≡ next ++ zones_from places (number + 1) nodes → count_of next + left ≡ 50_000 → Finds places all next (number + 1) left nodes) →
    option_map (λ (found : ℕ × Child). found.1.place) (find (is_bad_among every_moment all) (enumerate_from (length front) (if b then the_child places number node ∷ zones_from places (number + 1) nodes else zones_from places (number + 1) nodes)))
    ≡ option_map (λ one. get_or places one 0) (if b && is_bad room node then Some number else first_bad (number + 1) (if b then room - zone_count node else room) nodes)
by_kind places nodes all front number room node true whole left on =
    let child = the_child places number node in
    let rest = zones_from places (number + 1) nodes in
    ap (λ test. option_map (λ (found : ℕ × Child). found.1.place) (if test then Some (length front, child) else find (is_bad_among every_moment all) (enumerate_from (length front + 1) rest)))
    (ap (λ zones. is_bad_among every_moment zones (length front, child)) whole ∙ bad_is front rest child room left)
    ∙ by_test places nodes all front number room node (is_bad room node)
    (λ good. on (front ++ child ∷ []) (room - zone_count node) (whole ∙ sym (append_assoc front (child ∷ []) rest))
    (let fits = ltb-false room (zone_count node) (neither (has_zone_fault node) (nat_lt room (zone_count node)) good).1 in let more = count_more front child in omega (arith, more, left, fits)))
by_kind places nodes all front number room node false whole left on = on front room whole left

finds_on : (places : List ℕ) (nodes : List Node) (all front : List Child) (number room : ℕ) → all ≡ front ++ zones_from places number nodes → count_of front + room ≡ 50_000 →
    Finds places all front number room nodes
finds_on places [] all front number room whole left = refl
finds_on places (node ∷ nodes) all front number room whole left =
    by_kind places nodes all front number room node (is_zone node) whole left (λ next some is counts. finds_on places nodes all next (number + 1) some is counts)

-- the fault of the zones of a calendar
pub zone_fault-first_bad : (placed : List Placed) (calendar : Node) →
    zone_fault every_moment (zones_among (children_in placed calendar)) ≡ option_map (λ child. get_or (child_places placed) child 0) (first_bad 0 50_000 (children_of calendar))
zone_fault-first_bad placed calendar =
    finds_on (child_places placed) (children_of calendar) (zones_from (child_places placed) 0 (children_of calendar)) [] 0 50_000 refl refl
