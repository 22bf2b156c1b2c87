-- A report that its body doesn't refuse is sound.
use Rattle.std.specs.Prelude.{◌≡◌, ℕ, zero, suc, Bool, true, false, not, ◌&&◌, ◌||◌, if◌then◌else◌, List, [], ◌∷◌, ◌++◌, length, take, map, filter, flat_map, slice_get, bytes_eq, codes, Option, Some, None, is_none, option_map, option_and_then, unwrap_or, ℤ, int_lt, ◌==◌}
use Rattle.std.specs.List.{list_any, list_all}
use Rattle.std.proofs.Common.{arith, refl, sym, ap, subst, ◌∙◌}
use Rattle.std.proofs.lemmas.Bool.{false≢true, eqb-true}
use Rattle.std.proofs.lemmas.List.{length-map}
use Rattle.std.proofs.lemmas.List.Folds.{list_any-append}
use Rattle.std.proofs.lemmas.Option.{same_Some}
use Rattle.cal_base.specs.declared.element.Element.{Element}
use Rattle.cal_base.specs.Xml.XmlFaults.{greatest_depth}
use Rattle.cal_model.specs.declared.filter.PropTest.TheVariants.{Time, Text as PropText}
use Rattle.cal_model.specs.declared.filter.CompFilter.{CompFilter}
use Rattle.cal_model.specs.declared.filter.CompFilter.TheOpen.{CompFilter-F}
use Rattle.cal_model.specs.declared.filter.CompFilter.TheViews.{out-roll-CompFilter}
use Rattle.cal_model.specs.declared.filter.CompFilter.TheFolds.{fold-roll-CompFilter}
use Rattle.cal_model.specs.declared.reply.Refusal.{Refusal}
use Rattle.cal_model.specs.declared.report.ReportRequest.{ReportRequest}
use Rattle.cal_model.specs.declared.report.ReportRequest.TheVariants.{Query, Multiget, FreeBusy}
use Rattle.cal_model.specs.declared.request.Content.{Content}
use Rattle.cal_model.specs.declared.request.Content.TheVariants.{Report, Bad}
use Rattle.cal_model.specs.declared.row.Range.{Range}
use Rattle.cal_model.specs.Words.Limits.{first_date, last_date}
use Rattle.cal_model.specs.Words.Namespaces.{dav, caldav}
use Rattle.cal_model.specs.Words.Lists.{is_empty}
use Rattle.cal_model.specs.Bodies.ElementParts.{has_name, named, own_text, nested_to, attribute_of}
use Rattle.cal_model.specs.Bodies.Refusals.{dav_refusal, caldav_refusal, Row, first_row}
use Rattle.cal_model.specs.Bodies.ElementParts.{each, only, has, name_of}
use Rattle.cal_model.specs.Bodies.FilterElements.{is_absent, is_time, text_match, prop_test, prop_tests, prop_filter, param_filter, comp_filter_to, is_named_in, ranged_components, dated_properties, is_crowded_comp, is_crowded_prop, has_range_without_time, is_unsupported_filter, is_invalid_filter, is_crowded_param, comp_filters, prop_filters, param_filters, filter_ranges, comp_filter, has_nameless_filter}
use Rattle.cal_model.specs.Bodies.RangeElements.{moment_or, range_between, range_of_ends, range_of, is_bad_range, no_range, stated}
use Rattle.cal_model.specs.Bodies.DataElements.{recur_of, data_ranges, has_nameless_pick, has_both_limits}
use Rattle.cal_model.specs.Bodies.ReportBodies.{selection_by, report_rows, report_unless, asked_data, query_with, query_content, multiget_content, free_busy_with, free_busy_content, report_content}
use Rattle.cal_model.specs.Bodies.AskedProperties.{props_of}
use Rattle.cal_model.specs.Bodies.SoundReports.{is_proper, is_of, test_is_sound, prop_is_sound, time_is_sound, sound_step, comp_is_sound, filter_name, is_proper_if_some, recur_is_sound, selection_is_sound, report_is_sound, ReportsAreSound}
use Rattle.cal_model.proofs.Bodies.AclSizes.{NoneHolds, none_holds}

-- Tests

or_none : (one other : Bool) → (one || other) ≡ false → (one ≡ false) × (other ≡ false)
or_none false other e = (refl, e)
or_none true other e = absurd cc

and_true : (one other : Bool) → one ≡ true → other ≡ true → (one && other) ≡ true
and_true true other h k = k
and_true false other h k = absurd cc

-- where a conjunction fails and its first part holds, the second's negation fails
unless : (one other : Bool) → (one && not other) ≡ false → one ≡ true → other ≡ true
unless true true e h = refl
unless true false e h = absurd cc
unless false other e h = absurd cc

-- nothing is known where the first fails
implied : (one other : Bool) → (one && other) ≡ false → one ≡ true → other ≡ false
implied true other e h = e
implied false other e h = absurd cc

-- Each of some

abbrev Each : {X : Type 0} → (X → Type 0) → List X → Type 0
Each P [] = Unit {0}
Each P (x ∷ xs) = P x × Each P xs

any_each : {X : Type 0} (test : X → Bool) (xs : List X) → list_any test xs ≡ false → Each (λ x. test x ≡ false) xs
any_each test [] e = tt
any_each test (x ∷ xs) e = let both = or_none (test x) (list_any test xs) e in (both.0, any_each test xs both.1)

pub any_append : {X : Type 0} (test : X → Bool) (xs ys : List X) → list_any test (xs ++ ys) ≡ false → (list_any test xs ≡ false) × (list_any test ys ≡ false)
any_append test xs ys e = or_none (list_any test xs) (list_any test ys) (sym (list_any-append test xs ys) ∙ e)

pub any_flat : {X Y : Type 0} (test : Y → Bool) (make : X → List Y) (xs : List X) → list_any test (flat_map make xs) ≡ false → Each (λ x. list_any test (make x) ≡ false) xs
any_flat test make [] e = tt
any_flat test make (x ∷ xs) e = let both = any_append test (make x) (flat_map make xs) e in (both.0, any_flat test make xs both.1)

pub any_filter : {X : Type 0} (kept test : X → Bool) (xs : List X) → list_any test (filter kept xs) ≡ false → list_any (λ x. kept x && test x) xs ≡ false
any_filter kept test [] e = refl
any_filter kept test (x ∷ xs) e = by (kept x) (λ h. any_filter kept test xs h) e
  where
    by : (b : Bool) → (list_any test (filter kept xs) ≡ false → list_any (λ y. kept y && test y) xs ≡ false) → list_any test (if b then x ∷ filter kept xs else filter kept xs) ≡ false → ((b && test x) || list_any (λ y. kept y && test y) xs) ≡ false
    by true more h = let both = or_none (test x) (list_any test (filter kept xs)) h in ap (λ t. t || list_any (λ y. kept y && test y) xs) both.0 ∙ more both.1
    by false more h = more h

each_both : {X : Type 0} (P Q : X → Type 0) (xs : List X) → Each P xs → Each Q xs → Each (λ x. P x × Q x) xs
each_both P Q [] h k = tt
each_both P Q (x ∷ xs) h k = ((h.0, k.0), each_both P Q xs h.1 k.1)

each_append : {X : Type 0} (P : X → Type 0) (xs ys : List X) → Each P (xs ++ ys) → Each P xs × Each P ys
each_append P [] ys h = (tt, h)
each_append P (x ∷ xs) ys h = let more = each_append P xs ys h.1 in ((h.0, more.0), more.1)

each_flat : {X Y : Type 0} (P : Y → Type 0) (make : X → List Y) (xs : List X) → Each P (flat_map make xs) → Each (λ x. Each P (make x)) xs
each_flat P make [] h = tt
each_flat P make (x ∷ xs) h = let both = each_append P (make x) (flat_map make xs) h in (both.0, each_flat P make xs both.1)

all_made : {X Y : Type 0} (P : X → Type 0) (test : Y → Bool) (make : X → Y) → ((x : X) → P x → test (make x) ≡ true) → (xs : List X) → Each P xs → list_all test (map make xs) ≡ true
all_made P test make h [] k = refl
all_made P test make h (x ∷ xs) k = and_true (test (make x)) (list_all test (map make xs)) (h x k.0) (all_made P test make h xs k.1)

pub some_not_empty : {X : Type 0} (x : X) (xs : List X) → not (is_empty (x ∷ xs)) ≡ true
some_not_empty x xs = by (is_empty (x ∷ xs)) refl
  where
    by : (b : Bool) → is_empty (x ∷ xs) ≡ b → not b ≡ true
    by true h = absurd (no (eqb-true (length (x ∷ xs)) 0 h))
      where
        no : length (x ∷ xs) ≡ 0 → ⊥
        no e = omega (arith, e)
    by false h = refl

-- a list without elements
pub empty_is : {X : Type 0} (xs : List X) → not (is_empty xs) ≡ false → xs ≡ []
empty_is [] e = refl
empty_is (x ∷ xs) e = absurd (false≢true (sym e ∙ some_not_empty x xs))

-- Ranges

proper_between : (start end : ℤ) (range : Range) → range_between start end ≡ Some range → is_proper range ≡ true
proper_between start end range e = by (int_lt start end) refl e
  where
    by : (b : Bool) → int_lt start end ≡ b → (if b then Some (record { start = record { 0 = start }; end = record { 0 = end } }) else None) ≡ Some range → is_proper range ≡ true
    by true h k = subst (λ (r : Range). is_proper r ≡ true) (same_Some _ range k) h
    by false h k = absurd cc

proper_ends : (start end : Option ℤ) (range : Range) → option_and_then (λ s. option_and_then (λ e. range_between s e) end) start ≡ Some range → is_proper range ≡ true
proper_ends None end range e = absurd cc
proper_ends (Some start) None range e = absurd cc
proper_ends (Some start) (Some end) range e = proper_between start end range e

proper_of : (start end : Option (List ℕ)) (range : Range) → range_of_ends start end ≡ Some range → is_proper range ≡ true
proper_of start end range e = by (is_none start && is_none end) e
  where
    by : (b : Bool) → (if b then None else option_and_then (λ s. option_and_then (λ e. range_between s e) (moment_or last_date end)) (moment_or first_date start)) ≡ Some range → is_proper range ≡ true
    by true k = absurd cc
    by false k = proper_ends (moment_or first_date start) (moment_or last_date end) range k

proper_stated : (element : Element) → is_bad_range element ≡ false → is_proper (stated element) ≡ true
proper_stated element e = by (range_of element) refl e
  where
    by : (found : Option Range) → range_of element ≡ found → is_none found ≡ false → is_proper (unwrap_or found no_range) ≡ true
    by None h k = absurd cc
    by (Some range) h k = proper_of (attribute_of (codes "start") element) (attribute_of (codes "end") element) range h

-- Filters of properties

record PropFine (filter : Element) : Type 0 where
  crowded : is_crowded_prop filter ≡ false
  ranges : list_any (λ t. is_time t && is_bad_range t) (prop_tests filter) ≡ false
  supported : is_unsupported_filter filter ≡ false

prop_sound : (filter : Element) → PropFine filter → prop_is_sound (prop_filter filter) ≡ true
prop_sound filter fine = by (is_absent filter) (prop_tests filter) fine.crowded fine.ranges fine.supported
  where
    by_time : (b : Bool) (test : Element) → (b ≡ true → is_bad_range test ≡ false) → (b ≡ true → is_of dated_properties (name_of filter) ≡ true) →
        test_is_sound (name_of filter) (is_empty (map param_filter (each (codes "param-filter") filter))) (if b then Time (stated test) else PropText (text_match test)) ≡ true
    by_time true test h k = and_true (is_proper (stated test)) (is_of dated_properties (name_of filter)) (proper_stated test (h refl)) (k refl)
    by_time false test h k = refl

    by : (b : Bool) (tests : List Element) → (b && (has (codes "time-range") filter || has (codes "text-match") filter || has (codes "param-filter") filter)) ≡ false → list_any (λ t. is_time t && is_bad_range t) tests ≡ false →
        (list_any is_time tests && not (is_named_in dated_properties filter)) ≡ false → test_is_sound (name_of filter) (is_empty (map param_filter (each (codes "param-filter") filter))) (prop_test b tests) ≡ true
    by true tests c r s =
        ap (λ those. is_empty (map param_filter those))
        (empty_is (each (codes "param-filter") filter) (or_none (has (codes "time-range") filter || has (codes "text-match") filter) (has (codes "param-filter") filter) c).1)
    by false [] c r s = refl
    by false (test ∷ more) c r s =
        by_time (is_time test) test
        (λ h. implied (is_time test) (is_bad_range test) (or_none (is_time test && is_bad_range test) (list_any (λ t. is_time t && is_bad_range t) more) r).0 h)
        (λ h. unless (list_any is_time (test ∷ more)) (is_named_in dated_properties filter) s (ap (λ b. b || list_any is_time more) h))

-- Filters of components

record Fine (filter : Element) : Type 0 where
  crowded : is_crowded_comp filter ≡ false
  timed : has_range_without_time filter ≡ false
  range : list_any is_bad_range (only (codes "time-range") filter) ≡ false
  props : Each PropFine (each (codes "prop-filter") filter)

time_sound : (filter : Element) (ranges : List Element) → (not (is_empty ranges) && not (is_named_in ranged_components filter)) ≡ false → list_any is_bad_range (take 1 ranges) ≡ false →
    time_is_sound (name_of filter) (option_map stated (slice_get (take 1 ranges) 0)) ≡ true
time_sound filter [] h k = refl
time_sound filter (range ∷ more) h k =
    and_true (is_proper (stated range)) (is_of ranged_components (name_of filter)) (proper_stated range (or_none (is_bad_range range) false k).0)
    (unless (not (is_empty (range ∷ more))) (is_named_in ranged_components filter) h (some_not_empty range more))

alone : (depth : ℕ) (ranges props comps : List Element) → ranges ≡ [] → props ≡ [] → comps ≡ [] →
    (is_none (option_map stated (slice_get (take 1 ranges) 0)) && (is_empty (map prop_filter props) && is_empty (map comp_is_sound (map (comp_filter_to depth) comps)))) ≡ true
alone depth [] [] [] e f g = refl
alone depth (range ∷ ranges) props comps e f g = absurd cc
alone depth [] (prop ∷ props) comps e f g = absurd cc
alone depth [] [] (comp ∷ comps) e f g = absurd cc

all_comps : {X : Type 0} (P : Element → Type 0) (make : Element → X) (test : X → Bool) → ((x : Element) → P x → test (make x) ≡ true) → (xs : List Element) → Each P xs → list_all (λ (b : Bool). b) (map test (map make xs)) ≡ true
all_comps P make test h [] k = refl
all_comps P make test h (x ∷ xs) k = and_true (test (make x)) (list_all (λ (b : Bool). b) (map test (map make xs))) (h x k.0) (all_comps P make test h xs k.1)

comp_sound : (depth : ℕ) (filter : Element) → Each Fine (nested_to depth (each (codes "comp-filter")) filter) → comp_is_sound (comp_filter_to depth filter) ≡ true
comp_sound zero filter h = fold-roll-CompFilter Bool sound_step _
comp_sound (suc depth) filter h =
    fold-roll-CompFilter Bool sound_step _
    ∙ and_true _ _ (by (is_absent filter) h.0.crowded)
    (and_true _ _ (time_sound filter (each (codes "time-range") filter) h.0.timed h.0.range)
    (and_true _ _ (all_made PropFine prop_is_sound prop_filter prop_sound (each (codes "prop-filter") filter) h.0.props)
    (all_comps (λ inner. Each Fine (nested_to depth (each (codes "comp-filter")) inner)) (comp_filter_to depth) comp_is_sound (comp_sound depth) (each (codes "comp-filter") filter)
    (each_flat Fine (nested_to depth (each (codes "comp-filter"))) (each (codes "comp-filter") filter) h.1))))
  where
    by : (b : Bool) → (b && (has (codes "time-range") filter || has (codes "prop-filter") filter || has (codes "comp-filter") filter)) ≡ false →
        (if b then is_none (option_map stated (slice_get (only (codes "time-range") filter) 0)) && (is_empty (map prop_filter (each (codes "prop-filter") filter)) && is_empty (map comp_is_sound (map (comp_filter_to depth) (each (codes "comp-filter") filter)))) else true) ≡ true
    by true c =
        let most = or_none (has (codes "time-range") filter || has (codes "prop-filter") filter) (has (codes "comp-filter") filter) c in
        let first = or_none (has (codes "time-range") filter) (has (codes "prop-filter") filter) most.0 in
        alone depth (each (codes "time-range") filter) (each (codes "prop-filter") filter) (each (codes "comp-filter") filter) (empty_is _ first.0) (empty_is _ first.1) (empty_is _ most.1)
    by false c = refl

-- What no row refuses

each_to : {X : Type 0} (P Q : X → Type 0) → ((x : X) → P x → Q x) → (xs : List X) → Each P xs → Each Q xs
each_to P Q h [] k = tt
each_to P Q h (x ∷ xs) k = (h x k.0, each_to P Q h xs k.1)

props_fine : (props : List Element) → list_any is_crowded_prop props ≡ false → list_any is_bad_range (filter is_time (flat_map prop_tests props)) ≡ false → list_any is_unsupported_filter props ≡ false → Each PropFine props
props_fine props c r s =
    let crowded = any_each is_crowded_prop props c in
    let ranges = any_flat (λ t. is_time t && is_bad_range t) prop_tests props (any_filter is_time is_bad_range (flat_map prop_tests props) r) in
    let supported = any_each is_unsupported_filter props s in
    each_to _ PropFine (λ prop h. record { crowded = h.0; ranges = h.1.0; supported = h.1.1 }) props
    (each_both _ _ props crowded (each_both _ _ props ranges supported))

comps_fine : (comps : List Element) → list_any is_crowded_comp comps ≡ false → list_any has_range_without_time comps ≡ false → list_any is_bad_range (flat_map (only (codes "time-range")) comps) ≡ false →
    Each PropFine (flat_map (each (codes "prop-filter")) comps) → Each Fine comps
comps_fine comps c t r p =
    let crowded = any_each is_crowded_comp comps c in
    let timed = any_each has_range_without_time comps t in
    let ranges = any_flat is_bad_range (only (codes "time-range")) comps r in
    let props = each_flat PropFine (each (codes "prop-filter")) comps p in
    each_to _ Fine (λ comp h. record { crowded = h.0; timed = h.1.0; range = h.1.1.0; props = h.1.1.1 }) comps
    (each_both _ _ comps crowded (each_both _ _ comps timed (each_both _ _ comps ranges props)))

filter_fine : (top : Element) → is_invalid_filter top ≡ false → list_any is_unsupported_filter (prop_filters top) ≡ false → Each Fine (comp_filters top)
filter_fine top e s =
    let named = not (bytes_eq (name_of top) (codes "VCALENDAR")) in
    let ranged = list_any is_bad_range (filter_ranges top) in
    let timed = list_any has_range_without_time (comp_filters top) in
    let comps = list_any is_crowded_comp (comp_filters top) in
    let props = list_any is_crowded_prop (prop_filters top) in
    let six = or_none (named || ranged || timed || comps || props) (list_any is_crowded_param (param_filters top)) e in
    let five = or_none (named || ranged || timed || comps) props six.0 in
    let four = or_none (named || ranged || timed) comps five.0 in
    let three = or_none (named || ranged) timed four.0 in
    let two = or_none named ranged three.0 in
    let both = any_append is_bad_range (flat_map (only (codes "time-range")) (comp_filters top)) (filter is_time (flat_map prop_tests (prop_filters top))) two.1 in
    comps_fine (comp_filters top) four.1 three.1 both.0 (props_fine (prop_filters top) five.1 both.1 s)

named_of : (top : Element) → filter_name (comp_filter top) ≡ name_of top
named_of top = ap (λ (x : CompFilter-F CompFilter). x.name) (out-roll-CompFilter _)

not_not : (b : Bool) → not b ≡ false → b ≡ true
not_not true e = refl
not_not false e = absurd cc

top_name : (top : Element) → is_invalid_filter top ≡ false → bytes_eq (filter_name (comp_filter top)) (codes "VCALENDAR") ≡ true
top_name top e =
    let named = not (bytes_eq (name_of top) (codes "VCALENDAR")) in
    let ranged = list_any is_bad_range (filter_ranges top) in
    let timed = list_any has_range_without_time (comp_filters top) in
    let comps = list_any is_crowded_comp (comp_filters top) in
    let props = list_any is_crowded_prop (prop_filters top) in
    let six = or_none (named || ranged || timed || comps || props) (list_any is_crowded_param (param_filters top)) e in
    let five = or_none (named || ranged || timed || comps) props six.0 in
    let four = or_none (named || ranged || timed) comps five.0 in
    let three = or_none (named || ranged) timed four.0 in
    ap (λ (text : List ℕ). bytes_eq text (codes "VCALENDAR")) (named_of top) ∙ not_not (bytes_eq (name_of top) (codes "VCALENDAR")) (or_none named ranged three.0).0

-- Selections

recur_sound : (expands limits : List Element) → list_any is_bad_range expands ≡ false → list_any is_bad_range limits ≡ false → recur_is_sound (recur_of expands limits) ≡ true
recur_sound [] [] h k = refl
recur_sound [] (limit ∷ more) h k = proper_stated limit (or_none (is_bad_range limit) (list_any is_bad_range more) k).0
recur_sound (expand ∷ more) limits h k = proper_stated expand (or_none (is_bad_range expand) (list_any is_bad_range more) h).0

busy_sound : (ranges : List Element) → list_any is_bad_range ranges ≡ false → is_proper_if_some (option_map stated (slice_get ranges 0)) ≡ true
busy_sound [] h = refl
busy_sound (range ∷ more) h = proper_stated range (or_none (is_bad_range range) (list_any is_bad_range more) h).0

selection_sound : (data_ : List Element) → list_any is_bad_range (flat_map data_ranges data_) ≡ false → selection_is_sound (selection_by data_) ≡ true
selection_sound [] h = refl
selection_sound (element ∷ more) h =
    let expands = only (codes "expand") element in
    let limits = only (codes "limit-recurrence-set") element in
    let busy = only (codes "limit-freebusy-set") element in
    let all = any_append is_bad_range (data_ranges element) (flat_map data_ranges more) h in
    let outer = any_append is_bad_range (expands ++ limits) busy all.0 in
    let inner = any_append is_bad_range expands limits outer.0 in
    and_true (recur_is_sound (recur_of expands limits)) (is_proper_if_some (option_map stated (slice_get busy 0))) (recur_sound expands limits inner.0 inner.1) (busy_sound busy outer.1)

-- Reports

report_in : ReportRequest → Content → ReportRequest
report_in other (Report report) = report
report_in other _ = other

same_report : (one other : ReportRequest) → Report one ≡ Report other → one ≡ other
unfolding report_in
same_report one other e = ap (report_in one) e

unless_taken : (rows : List Row) (one report : ReportRequest) → report_unless rows one ≡ Report report → NoneHolds rows × (one ≡ report)
unless_taken rows one report e = by (first_row rows) refl e
  where
    by : (found : Option Refusal) → first_row rows ≡ found → elim found [ None ↦ Report one | Some refusal ↦ Bad refusal ] ≡ Report report → NoneHolds rows × (one ≡ report)
    by None h k = (none_holds rows h, same_report one report k)
    by (Some refusal) h k = absurd cc

query_sound : (root : Element) (tops : List Element) (report : ReportRequest) → query_with root tops ≡ Report report → report_is_sound report ≡ true
query_sound root [] report e = absurd cc
query_sound root (top ∷ more) report e =
    let data_ = asked_data root in
    let taken = unless_taken (report_rows false (top ∷ []) data_) (Query (props_of root) (selection_by data_) (record { top = comp_filter top }) (option_map own_text (slice_get (only (codes "timezone") root) 0))) report e in
    let valid = or_none (list_any is_invalid_filter (top ∷ [])) (list_any is_bad_range (flat_map data_ranges data_)) taken.0.1.0 in
    let supported = any_flat is_unsupported_filter prop_filters (top ∷ []) taken.0.1.1.0 in
    subst (λ (those : ReportRequest). report_is_sound those ≡ true) taken.1
    (and_true (bytes_eq (filter_name (comp_filter top)) (codes "VCALENDAR")) (comp_is_sound (comp_filter top) && selection_is_sound (selection_by data_)) (top_name top (or_none (is_invalid_filter top) false valid.0).0)
    (and_true (comp_is_sound (comp_filter top)) (selection_is_sound (selection_by data_))
    (comp_sound greatest_depth top (filter_fine top (or_none (is_invalid_filter top) false valid.0).0 supported.0)) (selection_sound data_ valid.1)))

multiget_sound : (root : Element) (report : ReportRequest) → multiget_content root ≡ Report report → report_is_sound report ≡ true
multiget_sound root report e =
    let data_ = asked_data root in
    let hrefs = named dav (codes "href") root in
    let taken = unless_taken (report_rows (is_empty hrefs) [] data_) (Multiget (props_of root) (selection_by data_) (map own_text hrefs)) report e in
    let third = or_none (is_empty hrefs || list_any has_nameless_filter [] || list_any has_nameless_pick data_) (list_any has_both_limits data_) taken.0.0 in
    let second = or_none (is_empty hrefs || list_any has_nameless_filter []) (list_any has_nameless_pick data_) third.0 in
    let first = or_none (is_empty hrefs) (list_any has_nameless_filter []) second.0 in
    let valid = or_none (list_any is_invalid_filter []) (list_any is_bad_range (flat_map data_ranges data_)) taken.0.1.0 in
    subst (λ (those : ReportRequest). report_is_sound those ≡ true) taken.1
    (and_true (not (is_empty (map own_text hrefs))) (selection_is_sound (selection_by data_)) (ap (λ n. not (n == 0)) (length-map hrefs own_text) ∙ ap not first.0) (selection_sound data_ valid.1))

free_busy_sound : (ranges : List Element) (report : ReportRequest) → free_busy_with ranges ≡ Report report → report_is_sound report ≡ true
free_busy_sound [] report e = absurd cc
free_busy_sound (range ∷ more) report e =
    let taken = unless_taken ((is_bad_range range, caldav_refusal (codes "valid-filter")) ∷ []) (FreeBusy (stated range)) report e in
    subst (λ (those : ReportRequest). report_is_sound those ≡ true) taken.1 (proper_stated range taken.0.0)

pub reports_are_sound : ReportsAreSound
unfolding report_content
reports_are_sound root report e =
    by (has_name caldav (codes "calendar-query") root) (has_name caldav (codes "calendar-multiget") root) (has_name caldav (codes "free-busy-query") root) e
  where
    by : (one two three : Bool) →
        (if one then query_content root else if two then multiget_content root else if three then free_busy_content root else Bad (dav_refusal (codes "supported-report"))) ≡ Report report → report_is_sound report ≡ true
    by true two three k = query_sound root (flat_map (only (codes "comp-filter")) (only (codes "filter") root)) report k
    by false true three k = multiget_sound root report k
    by false false true k = free_busy_sound (only (codes "time-range") root) report k
    by false false false k = absurd cc
