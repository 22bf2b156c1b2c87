-- The walk that keeps what is open finds the dates of a text, where its lines are nested.
use Rattle.std.proofs.Common.{◌≡◌, ℕ, zero, suc, ◌+◌, Bool, true, false, List, [], ◌∷◌, ◌++◌, length, map, refl, sym, ap, ap₂, ◌∙◌, arith, eq-eqb}
use Rattle.std.specs.Prelude.{◌&&◌, ◌||◌, ◌==◌, nat_lt, if◌then◌else◌, bytes_eq, codes, find, filter_map, flat_map, is_some, option_map, Option, Some, None}
use Rattle.std.specs.List.{enumerate_from, range_with_len, last_or}
use Rattle.std.proofs.lemmas.Bool.{eqb-true, le-ltb}
use Rattle.std.proofs.lemmas.List.{map-append, length-map}
use Rattle.std.proofs.lemmas.Slice.Eq.{bytes_eq-Decides}
use Rattle.cal_base.specs.declared.line.Line.{Line}
use Rattle.cal_base.specs.Lines.ComponentTrees.{is_begin, is_end, component_name, depth, innermost, name_at, or_else}
use Rattle.cal_base.specs.Lines.Nesting.{Opening, open_behind, without_innermost}
use Rattle.cal_base.proofs.Lines.FaultsFromFront.{AreOpen, depth_is, innermost_line_is}
use Rattle.cal_moment.specs.declared.stamp.Stamp.{Stamp}
use Rattle.cal_model.specs.declared.object.Kind.{Kind as ComponentKind}
use Rattle.cal_model.specs.declared.object.Kind.TheVariants.{Event, Todo, Journal, FreeBusy}
use Rattle.cal_model.specs.Words.Limits.{first_date, last_date}
use Rattle.std.specs.Prelude.{int_lt}
use Rattle.cal_model.specs.Values.StampTexts.{line_zone, zone_number}
use Rattle.cal_model.specs.Objects.ComponentLines.{kind_named}
use Rattle.cal_model.specs.Objects.DateFaults.{is_in_kind, is_in_alarm, trigger_stamps, stamps_of_line, all_stamps, is_early, is_late, stamp_outside}
use Rattle.cal_model.specs.Objects.DatedLines.{dated_stamps}
use Rattle.cal_object.specs.declared.outside.FoundDate.{FoundDate}
use Rattle.cal_object.specs.declared.outside.OpenKind.{OpenKind}
use Rattle.cal_object.specs.declared.outside.OpenKind.TheVariants.{Kind, Alarm, Other}
use Rattle.cal_object.specs.OwnFaults.{without_first}
use Rattle.cal_object.specs.DatesOutside.{numbered, stamp_beside, is_kind_name, kind_of_name, kinds_behind, is_kind, is_alarm, in_kind, in_alarm, dates_within, found_in, dates_from, first_early, first_late}
use Rattle.cal_object.proofs.NamedLemmas.{bytes_eq_sym}
use Rattle.cal_object.proofs.ListSteps.{find-map, find-append, or_else_assoc}
use Rattle.cal_object.proofs.NestedLines.{AreNested}
use Rattle.cal_object.proofs.NumberedStamps.{same_value, dated_numbered, trigger_numbered}
use Rattle.cal_object.proofs.PropertyTable.{alike}

-- Kinds by name

named_kind : (name : List ℕ) → is_kind_name name ≡ is_some (kind_named name)
named_kind name =
    ap₂ (λ ab cd. ab || cd) (ap₂ (λ ab c. ab || c) (ap₂ (λ a b. a || b) (bytes_eq_sym name (codes "VEVENT")) (bytes_eq_sym name (codes "VTODO"))) (bytes_eq_sym name (codes "VJOURNAL"))) (bytes_eq_sym name (codes "VFREEBUSY"))
    ∙ by_tests (bytes_eq (codes "VEVENT") name) (bytes_eq (codes "VTODO") name) (bytes_eq (codes "VJOURNAL") name) (bytes_eq (codes "VFREEBUSY") name)
  where
    by_tests : (a b c d : Bool) → (((a || b) || c) || d) ≡ is_some (option_map (λ (row : List ℕ × ComponentKind). row.1)
        (if a then Some (codes "VEVENT", Event) else (if b then Some (codes "VTODO", Todo) else (if c then Some (codes "VJOURNAL", Journal) else (if d then Some (codes "VFREEBUSY", FreeBusy) else None)))))
    by_tests true b c d = refl
    by_tests false true c d = refl
    by_tests false false true d = refl
    by_tests false false false true = refl
    by_tests false false false false = refl

is_kind_of : (b c : Bool) → is_kind (Some (if b then Kind else (if c then Alarm else Other))) ≡ b
is_kind_of true c = refl
is_kind_of false true = refl
is_kind_of false false = refl

is_alarm_of : (b c : Bool) → (c ≡ true → b ≡ false) → is_alarm (Some (if b then Kind else (if c then Alarm else Other))) ≡ c
is_alarm_of true true apart = sym (apart refl)
is_alarm_of true false apart = refl
is_alarm_of false true apart = refl
is_alarm_of false false apart = refl

opened_kind : (name : List ℕ) → is_kind (Some (kind_of_name name)) ≡ is_some (kind_named name)
opened_kind name = is_kind_of (is_kind_name name) (bytes_eq name (codes "VALARM")) ∙ named_kind name

opened_alarm : (name : List ℕ) → is_alarm (Some (kind_of_name name)) ≡ bytes_eq name (codes "VALARM")
opened_alarm name =
    is_alarm_of (is_kind_name name) (bytes_eq name (codes "VALARM")) (λ same. ap is_kind_name ((bytes_eq-Decides name (codes "VALARM")).0 same))

-- What is open

abbrev opened : Opening → OpenKind
opened opening = kind_of_name opening.name

nothing_found : (search_at : ℕ → Option ℕ) → ((place : ℕ) → search_at place ≡ None) → (from many : ℕ) → filter_map search_at (range_with_len from many) ≡ []
nothing_found search_at none from zero = refl
nothing_found search_at none from (suc many) = let here : search_at from ≡ None = none from in rw here (nothing_found search_at none (from + 1) many)

innermost_none : (lines : List Line) (number : ℕ) → depth lines number ≡ 0 → innermost lines number ≡ None
innermost_none lines number none =
    ap (last_or None)
    (nothing_found (λ before. if nat_lt (depth lines before) (depth lines number) then Some before else None)
    (λ place. ap (λ b. if b then Some place else None) (le-ltb (depth lines place) (depth lines number) (omega (arith, none)))) 0 number)

is_two : (n : ℕ) → (suc n == 2) ≡ (n == 1)
is_two n = alike (suc n == 2) (n == 1) (λ same. let e = eqb-true (suc n) 2 same in eq-eqb n 1 (omega (arith, e))) (λ same. let e = eqb-true n 1 same in eq-eqb (suc n) 2 (omega (arith, e)))

is_three : (n : ℕ) → (suc (suc n) == 3) ≡ (n == 1)
is_three n = alike (suc (suc n) == 3) (n == 1) (λ same. let e = eqb-true (suc (suc n)) 3 same in eq-eqb n 1 (omega (arith, e))) (λ same. let e = eqb-true n 1 same in eq-eqb (suc (suc n)) 3 (omega (arith, e)))

kind_inside : (lines : List Line) (number : ℕ) (opening : Opening) (around : List Opening) → AreOpen lines number (opening ∷ around) → is_in_kind lines number ≡ ((length around == 1) && is_some (kind_named opening.name))
kind_inside lines number opening around are =
    ap (λ found. elim found [ None ↦ false | Some begin ↦ (depth lines begin == 1) && is_some (kind_named (name_at lines (Some begin))) ]) (innermost_line_is lines number opening around are)
    ∙ ap₂ (λ n name. (n == 1) && is_some (kind_named name)) (depth_is lines opening.line around are.4) are.1

kind_outside : (lines : List Line) (number : ℕ) → AreOpen lines number [] → is_in_kind lines number ≡ false
kind_outside lines number are =
    ap (λ found. elim found [ None ↦ false | Some begin ↦ (depth lines begin == 1) && is_some (kind_named (name_at lines (Some begin))) ]) (innermost_none lines number (depth_is lines number [] are))

alarm_outside : (lines : List Line) (number : ℕ) → AreOpen lines number [] → is_in_alarm lines number ≡ false
alarm_outside lines number are =
    ap (λ found. elim found [ None ↦ false | Some begin ↦ bytes_eq (name_at lines (Some begin)) (codes "VALARM") && is_in_kind lines begin ]) (innermost_none lines number (depth_is lines number [] are))

alarm_inside : (lines : List Line) (number : ℕ) (opening : Opening) (around : List Opening) → AreOpen lines number (opening ∷ around) → is_in_alarm lines number ≡ (bytes_eq opening.name (codes "VALARM") && is_in_kind lines opening.line)
alarm_inside lines number opening around are =
    ap (λ found. elim found [ None ↦ false | Some begin ↦ bytes_eq (name_at lines (Some begin)) (codes "VALARM") && is_in_kind lines begin ]) (innermost_line_is lines number opening around are)
    ∙ ap (λ name. bytes_eq name (codes "VALARM") && is_in_kind lines opening.line) are.1

in_kind_is : (lines : List Line) (number : ℕ) (open_ones : List Opening) → AreOpen lines number open_ones → is_in_kind lines number ≡ in_kind (map opened open_ones)
in_kind_is lines number [] are = kind_outside lines number are
in_kind_is lines number (opening ∷ around) are =
    kind_inside lines number opening around are
    ∙ ap₂ (λ a b. a && b) (ap (λ n. n == 1) (sym (length-map around opened)) ∙ sym (is_two (length (map opened around)))) (sym (opened_kind opening.name))

and_none : (a : Bool) → (a && false) ≡ false
and_none true = refl
and_none false = refl

in_turn : (a b c : Bool) → (a && (b && c)) ≡ ((b && a) && c)
in_turn true b c = ap (λ x. x && c) (kept b)
  where
    kept : (x : Bool) → x ≡ (x && true)
    kept true = refl
    kept false = refl
in_turn false true c = refl
in_turn false false c = refl

in_alarm_is : (lines : List Line) (number : ℕ) (open_ones : List Opening) → AreOpen lines number open_ones → is_in_alarm lines number ≡ in_alarm (map opened open_ones)
in_alarm_is lines number [] are = alarm_outside lines number are
in_alarm_is lines number (opening ∷ []) are =
    alarm_inside lines number opening [] are
    ∙ (ap (λ b. bytes_eq opening.name (codes "VALARM") && b) (kind_outside lines opening.line are.4) ∙ and_none (bytes_eq opening.name (codes "VALARM")))
in_alarm_is lines number (opening ∷ outer ∷ around) are =
    alarm_inside lines number opening (outer ∷ around) are
    ∙ (ap (λ b. bytes_eq opening.name (codes "VALARM") && b) (kind_inside lines opening.line outer around are.4)
    ∙ (in_turn (bytes_eq opening.name (codes "VALARM")) (length around == 1) (is_some (kind_named outer.name))
    ∙ ap₂ (λ a b. a && b)
    (ap₂ (λ a b. a && b) (ap (λ n. n == 1) (sym (length-map around opened)) ∙ sym (is_three (length (map opened around)))) (sym (opened_alarm opening.name)))
    (sym (opened_kind outer.name))))

kinds_step : (begin end : Bool) (number : ℕ) (line : Line) (open_ones : List Opening) →
    (if begin then kind_of_name (component_name line) ∷ map opened open_ones else (if end then without_first (map opened open_ones) else map opened open_ones))
    ≡ map opened (if begin then record { line = number; name = component_name line } ∷ open_ones else (if end then without_innermost open_ones else open_ones))
kinds_step true end number line open_ones = refl
kinds_step false true number line [] = refl
kinds_step false true number line (opening ∷ around) = refl
kinds_step false false number line open_ones = refl

-- The dates of a line

if_both : {X : Type 0} (b c : Bool) (f : X → X) (xs ys xs' ys' : List X) → xs ≡ map f xs' → ys ≡ map f ys' → (if b then xs else (if c then ys else [])) ≡ map f (if b then xs' else (if c then ys' else []))
if_both true c f xs ys xs' ys' first second = first
if_both false true f xs ys xs' ys' first second = second
if_both false false f xs ys xs' ys' first second = refl

map_map : {X Y Z : Type 0} (f : X → Y) (g : Y → Z) (h : X → Z) → ((x : X) → g (f x) ≡ h x) → (xs : List X) → map h xs ≡ map g (map f xs)
map_map f g h same [] = refl
map_map f g h same (x ∷ xs) = ap₂ (λ y ys. y ∷ ys) (sym (same x)) (map_map f g h same xs)

dates_of_line : (zones : List (List ℕ)) (lines : List Line) (number : ℕ) (open_ones : List Opening) (line : Line) → AreOpen lines number open_ones →
    stamps_of_line zones lines (number, line) ≡ map (stamp_beside zones) (map (found_in line) (dates_within (map opened open_ones) line))
dates_of_line zones lines number open_ones line are =
    ap₂ (λ b c. if b then dated_stamps zones line else (if c then trigger_stamps line else [])) (in_kind_is lines number open_ones are) (in_alarm_is lines number open_ones are)
    ∙ (if_both (in_kind (map opened open_ones)) (in_alarm (map opened open_ones)) (numbered (line_zone zones line)) (dated_stamps zones line) (trigger_stamps line) (dated_stamps [] line) (trigger_stamps line)
    (dated_numbered zones line) (trigger_numbered (line_zone zones line) line)
    ∙ map_map (found_in line) (stamp_beside zones) (numbered (line_zone zones line)) (λ stamp. refl) (dates_within (map opened open_ones) line))

dates_on : (zones : List (List ℕ)) (lines rest : List Line) (number : ℕ) (open_ones : List Opening) → AreNested lines number open_ones rest →
    flat_map (stamps_of_line zones lines) (enumerate_from number rest) ≡ map (stamp_beside zones) (dates_from (map opened open_ones) rest)
dates_on zones lines [] number open_ones are = refl
dates_on zones lines (line ∷ rest) number open_ones are =
    ap₂ (λ a b. a ++ b) (dates_of_line zones lines number open_ones line are.0.are)
    (dates_on zones lines rest (number + 1) (open_behind number open_ones line) are.1
    ∙ ap (λ open_kinds. map (stamp_beside zones) (dates_from open_kinds rest)) (sym (kinds_step (is_begin line) (is_end line) number line open_ones)))
    ∙ sym (map-append (stamp_beside zones) (map (found_in line) (dates_within (map opened open_ones) line)) (dates_from (kinds_behind (map opened open_ones) line) rest))

-- The first of them

early_alike : (zones : List (List ℕ)) (found : FoundDate) → is_early (stamp_beside zones found) ≡ is_early found.stamp
early_alike zones found = ap (λ value. int_lt value first_date) (same_value (option_map (zone_number zones) found.zone) found.stamp)

late_alike : (zones : List (List ℕ)) (found : FoundDate) → is_late (stamp_beside zones found) ≡ is_late found.stamp
late_alike zones found = ap (λ value. int_lt last_date value) (same_value (option_map (zone_number zones) found.zone) found.stamp)

either_map : {X Y : Type 0} (f : X → Y) (a b : Option X) → or_else (option_map f a) (option_map f b) ≡ option_map f (or_else a b)
either_map f None b = refl
either_map f (Some x) b = refl

-- the date outside, once the zones are known
pub stamp_outside-from_front : (zones : List (List ℕ)) (lines : List Line) → AreNested lines 0 [] lines →
    option_map (stamp_beside zones) (or_else (first_early (dates_from [] lines)) (first_late (dates_from [] lines))) ≡ stamp_outside zones lines
stamp_outside-from_front zones lines are =
    let all : all_stamps zones lines ≡ map (stamp_beside zones) (dates_from [] lines) = dates_on zones lines lines 0 [] are in
    sym
    (ap₂ or_else
    (ap (find is_early) all ∙ find-map is_early (λ (one : FoundDate). is_early one.stamp) (stamp_beside zones) (early_alike zones) (dates_from [] lines))
    (ap (find is_late) all ∙ find-map is_late (λ (one : FoundDate). is_late one.stamp) (stamp_beside zones) (late_alike zones) (dates_from [] lines))
    ∙ either_map (stamp_beside zones) (first_early (dates_from [] lines)) (first_late (dates_from [] lines)))

-- one line more of the walk
pub found_more : (test : FoundDate → Bool) (by_stamp : Stamp → Bool) → ((line : Line) (stamp : Stamp) → test (found_in line stamp) ≡ by_stamp stamp) →
    (before after : Option FoundDate) (open_kinds behind_kinds : List OpenKind) (line : Line) (rest : List Line) (dates : List Stamp) (whole : Option FoundDate) →
    dates ≡ dates_within open_kinds line → behind_kinds ≡ kinds_behind open_kinds line → after ≡ or_else before (option_map (found_in line) (find by_stamp dates)) →
    or_else before (find test (dates_from open_kinds (line ∷ rest))) ≡ whole → or_else after (find test (dates_from behind_kinds rest)) ≡ whole
found_more test by_stamp same before after open_kinds behind_kinds line rest dates whole are behind more is =
    let here : option_map (found_in line) (find by_stamp dates) ≡ find test (map (found_in line) (dates_within open_kinds line)) =
    ap (λ ds. option_map (found_in line) (find by_stamp ds)) are ∙ sym (find-map test by_stamp (found_in line) (same line) (dates_within open_kinds line)) in
    ap₂ (λ a k. or_else a (find test (dates_from k rest))) (more ∙ ap (or_else before) here) behind
    ∙ (or_else_assoc before (find test (map (found_in line) (dates_within open_kinds line))) (find test (dates_from (kinds_behind open_kinds line) rest))
    ∙ (ap (or_else before) (sym (find-append test (map (found_in line) (dates_within open_kinds line)) (dates_from (kinds_behind open_kinds line) rest))) ∙ is))
