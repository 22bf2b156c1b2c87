-- Whether an object matches a filter depends on no other rows than those that can meet a range of the filter.
use Rattle.std.proofs.Common.{◌≡◌, ℕ, ◌+◌, Bool, true, false, cond, not, ◌&&◌, ◌||◌, List, [], ◌∷◌, ◌++◌, map, length, Option, Some, None, refl, sym, ap, ◌∙◌, subst, append_assoc, get_or, arith}
use Rattle.std.specs.Prelude.{◌==◌, flat_map, filter, option_to_list, slice_get}
use Rattle.std.specs.List.{list_any, list_all, Contains, AllByRecursion}
use Rattle.std.proofs.lemmas.Bool.{eqb-true, and_parts, and_from}
use Rattle.std.proofs.lemmas.List.Elements.{Contains-get_or, recursion_from_All}
use Rattle.std.proofs.lemmas.Grind.{common_steps}
use Rattle.cal_model.specs.declared.filter.CompFilter.{CompFilter}
use Rattle.cal_model.specs.declared.filter.CompFilter.TheOpen.{CompFilter-F}
use Rattle.cal_model.specs.declared.filter.CompFilter.TheViews.{roll-CompFilter}
use Rattle.cal_model.specs.declared.filter.CompFilter.TheFolds.{ind-CompFilter}
use Rattle.cal_model.specs.declared.filter.Filter.{Filter}
use Rattle.cal_model.specs.declared.filter.PropFilter.{PropFilter}
use Rattle.cal_model.specs.declared.object.Alarm.{Alarm}
use Rattle.cal_model.specs.declared.object.Component.{Component}
use Rattle.cal_moment.specs.declared.stamp.Utc.{Utc}
use Rattle.cal_model.specs.declared.object.Object.{Object}
use Rattle.cal_model.specs.declared.object.Trigger.{Trigger}
use Rattle.cal_model.specs.declared.object.Trigger.TheVariants.{At, From}
use Rattle.cal_model.specs.declared.row.Fixed.{Fixed}
use Rattle.cal_model.specs.declared.row.Range.{Range}
use Rattle.cal_model.specs.declared.row.Row.{Row}
use Rattle.cal_model.specs.declared.zone.ZoneTable.{ZoneTable}
use Rattle.cal_model.specs.Filters.ComponentRanges.{Matched, Site, time_range_passes, range_passes, component_passes, valarm_passes, alarm_passes, alarm_at, alarms_before, has_trigger, component_at_path, component_at, holder_of, sites_in, whole_site}
use Rattle.cal_model.specs.Objects.ComponentReading.{is_alarm}
use Rattle.cal_model.specs.Filters.Matching.{matches, matches_object, comp_filter_holds, prop_filter_holds, comp_step, passes_all, has_filter_name}
use Rattle.cal_model.specs.Reports.NamedRanges.{ranges_of_filter, ranges_of_test, ranges_step}
use Rattle.cal_model.specs.Ranges.Overlap.{row_overlaps, alarm_overlaps, some_trigger, first_trigger, dated_fixed}
use Rattle.cal_model.specs.Ranges.RowRanges.{is_relative, alarm_in_range, component_of_row, row_meets, row_in_range, row_alarm_in_range}
use Rattle.cal_model.specs.Instances.Rows.{Numbered, numbered_from, rows}
use Rattle.cal_model.proofs.Words.ListTests.{any_at, any_same, any_agree, any_agree_all, any_filter, any_map, any_constant, all_filter, all_front, all_back, or_left, or_right, cond_same}
use Rattle.cal_model.proofs.Filters.FilterLemmas.{comp_filter_holds_roll, ranges_of_filter_roll}

-- Numbers of components

abbrev pub IsNumbered : List Component → Numbered → Type 0
IsNumbered components n = slice_get components n.number ≡ Some n.component

at_end_of_front : (front : List Component) (c : Component) (cs : List Component) → slice_get (front ++ c ∷ cs) (length front) ≡ Some c
at_end_of_front [] c cs = refl
at_end_of_front (d ∷ front) c cs = at_end_of_front front c cs

pub numbered_is : (cs front : List Component) → AllByRecursion (IsNumbered (front ++ cs)) (numbered_from (length front) cs)
numbered_is [] front = tt
numbered_is (c ∷ cs) front =
    let joined : (front ++ (c ∷ [])) ++ cs ≡ front ++ c ∷ cs = append_assoc front (c ∷ []) cs in
    let longer : length (front ++ (c ∷ [])) ≡ length front + 1 = grind (arith, common_steps) in
    (at_end_of_front front c cs, subst (λ n. AllByRecursion (IsNumbered (front ++ c ∷ cs)) (numbered_from n cs)) longer (rw joined at (numbered_is cs (front ++ (c ∷ [])))))

component_at_is : (object : Object) (child : ℕ) → AllByRecursion (IsNumbered object.components) (component_at object child)
component_at_is object child = all_filter (IsNumbered object.components) (λ (n : Numbered). n.component.child == child) (numbered_from 0 object.components) (numbered_is object.components [])

component_of_is : (object : Object) (path : List ℕ) → AllByRecursion (IsNumbered object.components) (component_at_path object path)
component_of_is object [] = tt
component_of_is object (child ∷ []) = component_at_is object child
component_of_is object (a ∷ b ∷ path) = tt

holder_of_is : (object : Object) (path : List ℕ) → AllByRecursion (IsNumbered object.components) (holder_of object path)
holder_of_is object [] = tt
holder_of_is object (a ∷ []) = tt
holder_of_is object (place ∷ child ∷ []) = component_at_is object child
holder_of_is object (a ∷ b ∷ c ∷ path) = tt

-- Rows

-- the rows of an object that a range may depend on are among some of them
pub record AreEnough (object : Object) (zone : ZoneTable) (range : Range) (some all : List Row) : Type 0 where
  pub rows_of : (row : Row) → Contains some row → Contains all row
  pub meeting : (row : Row) → Contains all row → row_meets object zone range row ≡ true → Contains some row

abbrev with_rows : Object → ZoneTable → List Row → Matched
with_rows object zone rows = record { object = object; rows = rows; zone = zone }

component_of_row_is : (object : Object) (row : Row) (n : Numbered) → IsNumbered object.components n → (row.component == n.number) ≡ true → component_of_row object row ≡ n.component ∷ []
component_of_row_is object row n is e = ap option_to_list (ap (slice_get object.components) (eqb-true row.component n.number e) ∙ is)

overlap_meets : (object : Object) (zone : ZoneTable) (range : Range) (n : Numbered) → IsNumbered object.components n → (row : Row)
    → ((row.component == n.number) && row_overlaps n.component row range zone) ≡ true → row_meets object zone range row ≡ true
overlap_meets object zone range n is row e =
    let both = and_parts (row.component == n.number) (row_overlaps n.component row range zone) e in
    or_left (row_in_range object zone range row) (row_alarm_in_range object zone range row)
    (ap (list_any (λ c. row_overlaps c row range zone)) (component_of_row_is object row n is both.0) ∙ or_left (row_overlaps n.component row range zone) false both.1)

component_passes_same : (object : Object) (zone : ZoneTable) (range : Range) (some all : List Row) → AreEnough object zone range some all → (n : Numbered) → IsNumbered object.components n
    → component_passes (with_rows object zone some) range n ≡ component_passes (with_rows object zone all) range n
component_passes_same object zone range some all enough n is =
    let p : Row → Bool = λ row. row_overlaps n.component row range zone in
    let q : Row → Bool = λ row. row.component == n.number in
    any_filter p q some ∙ any_same (λ row. q row && p row) some all enough.rows_of (λ row c e. enough.meeting row c (overlap_meets object zone range n is row e)) ∙ sym (any_filter p q all)

-- an alarm of a component
abbrev pub IsAlarm : Numbered → Alarm → Type 0
IsAlarm n alarm = (k : ℕ) × (slice_get n.component.alarms k ≡ Some alarm)

some_at : (n : Numbered) (k : ℕ) (found : Option Alarm) → slice_get n.component.alarms k ≡ found → AllByRecursion (IsAlarm n) (option_to_list found)
some_at n k None e = tt
some_at n k (Some alarm) e = ((k, e), tt)

alarm_at_is : (object : Object) (path : List ℕ) (n : Numbered) → AllByRecursion (IsAlarm n) (option_to_list (alarm_at object path n))
alarm_at_is object [] n = tt
alarm_at_is object (a ∷ []) n = tt
alarm_at_is object (place ∷ child ∷ []) n = some_at n (alarms_before object place child) (slice_get n.component.alarms (alarms_before object place child)) refl
alarm_at_is object (a ∷ b ∷ c ∷ path) n = tt

alarm_meets : (object : Object) (zone : ZoneTable) (range : Range) (n : Numbered) → IsNumbered object.components n → (alarm : Alarm) → IsAlarm n alarm → is_relative alarm.trigger ≡ true → (row : Row)
    → ((row.component == n.number) && alarm_overlaps alarm n.component (dated_fixed row zone) range) ≡ true → row_meets object zone range row ≡ true
alarm_meets object zone range n is alarm its relative row e =
    let both = and_parts (row.component == n.number) (alarm_overlaps alarm n.component (dated_fixed row zone) range) e in
    let test : Alarm → Bool = alarm_in_range zone range row n.component in
    let found : list_any test n.component.alarms ≡ true = any_at test n.component.alarms its.0 alarm its.1 (and_from (is_relative alarm.trigger) (alarm_overlaps alarm n.component (dated_fixed row zone) range) relative both.1) in
    or_right (row_in_range object zone range row) (row_alarm_in_range object zone range row)
    (ap (list_any (λ (c : Component). list_any (alarm_in_range zone range row c) c.alarms)) (component_of_row_is object row n is both.0) ∙ or_left (list_any test n.component.alarms) false found)

alarm_form : (g : Option Fixed → Bool) (zone : ZoneTable) (number : ℕ) (rows : List Row)
    → list_any g (map (λ row. dated_fixed row zone) (filter (λ (row : Row). row.component == number) rows))
    ≡ list_any (λ (row : Row). (row.component == number) && g (dated_fixed row zone)) rows
alarm_form g zone number rows =
    let q : Row → Bool = λ row. row.component == number in
    any_map g (λ row. dated_fixed row zone) (filter q rows) ∙ any_filter (λ row. g (dated_fixed row zone)) q rows

-- an alarm with an absolute trigger, whatever the rows are
absolute_is : (alarm : Alarm) (c : Component) (range : Range) (u : Utc) (at : Option Fixed) → alarm.trigger ≡ At u → alarm_overlaps alarm c at range ≡ alarm_overlaps alarm c None range
absolute_is alarm c range u at e =
    ap (λ t. list_any (some_trigger alarm range) (option_to_list (first_trigger t c at))) e ∙ sym (ap (λ t. list_any (some_trigger alarm range) (option_to_list (first_trigger t c None))) e)

by_trigger : (object : Object) (zone : ZoneTable) (range : Range) (some all : List Row) → AreEnough object zone range some all → (n : Numbered) → IsNumbered object.components n → (alarm : Alarm) → IsAlarm n alarm → (trigger : Trigger) → alarm.trigger ≡ trigger
    → alarm_passes (with_rows object zone some) range n alarm ≡ alarm_passes (with_rows object zone all) range n alarm
by_trigger object zone range some all enough n is alarm its (At u) e =
    let g : Option Fixed → Bool = λ at. alarm_overlaps alarm n.component at range in
    let same : (rows : List Row) → alarm_passes (with_rows object zone rows) range n alarm ≡ g None =
    λ rows. any_constant g (g None) (λ at. absolute_is alarm n.component range u at e) (map (λ row. dated_fixed row zone) (filter (λ (row : Row). row.component == n.number) rows)) in
    same some ∙ sym (same all)
by_trigger object zone range some all enough n is alarm its (From related length) e =
    let g : Option Fixed → Bool = λ at. alarm_overlaps alarm n.component at range in
    ap (λ t. g None || t) (alarm_form g zone n.number some
    ∙ any_same (λ row. (row.component == n.number) && g (dated_fixed row zone)) some all enough.rows_of (λ row c m. enough.meeting row c (alarm_meets object zone range n is alarm its (ap is_relative e) row m))
    ∙ sym (alarm_form g zone n.number all))

alarm_passes_same : (object : Object) (zone : ZoneTable) (range : Range) (some all : List Row) → AreEnough object zone range some all → (n : Numbered) → IsNumbered object.components n → (alarm : Alarm) → IsAlarm n alarm
    → alarm_passes (with_rows object zone some) range n alarm ≡ alarm_passes (with_rows object zone all) range n alarm
alarm_passes_same object zone range some all enough n is alarm its = by_trigger object zone range some all enough n is alarm its alarm.trigger refl

valarm_passes_same : (object : Object) (zone : ZoneTable) (range : Range) (some all : List Row) → AreEnough object zone range some all → (site : Site) (holders : List Numbered) → AllByRecursion (IsNumbered object.components) holders
    → valarm_passes (with_rows object zone some) range site holders ≡ valarm_passes (with_rows object zone all) range site holders
valarm_passes_same object zone range some all enough site [] is = refl
valarm_passes_same object zone range some all enough site (n ∷ more) is =
    ap (λ t. has_trigger site.node && t) (any_agree (alarm_passes (with_rows object zone some) range n) (alarm_passes (with_rows object zone all) range n) (IsAlarm n)
    (λ alarm its. alarm_passes_same object zone range some all enough n is.0 alarm its) (option_to_list (alarm_at object site.path n)) (alarm_at_is object site.path n))

range_passes_same : (object : Object) (zone : ZoneTable) (range : Range) (some all : List Row) → AreEnough object zone range some all → (site : Site)
    → range_passes (with_rows object zone some) range site ≡ range_passes (with_rows object zone all) range site
range_passes_same object zone range some all enough site =
    cond_same (is_alarm site.node)
    (valarm_passes (with_rows object zone some) range site (holder_of object site.path)) (valarm_passes (with_rows object zone all) range site (holder_of object site.path))
    (list_any (component_passes (with_rows object zone some) range) (component_at_path object site.path)) (list_any (component_passes (with_rows object zone all) range) (component_at_path object site.path))
    (valarm_passes_same object zone range some all enough site (holder_of object site.path) (holder_of_is object site.path))
    (any_agree (component_passes (with_rows object zone some) range) (component_passes (with_rows object zone all) range) (IsNumbered object.components)
    (λ n is. component_passes_same object zone range some all enough n is) (component_at_path object site.path) (component_of_is object site.path))

-- Filters: two lists of rows that pass the same ranges of a filter give it the same answer

abbrev pub IsSame : Object → ZoneTable → List Row → List Row → Range → Type 0
IsSame object zone some all range = (site : Site) → range_passes (with_rows object zone some) range site ≡ range_passes (with_rows object zone all) range site

abbrev joined : List (List Range) → List Range
joined lists = flat_map (λ (inner : List Range). inner) lists

abbrev pub IsAgreed : Object → ZoneTable → List Row → List Row → CompFilter → Type 0
IsAgreed object zone some all filter =
    AllByRecursion (IsSame object zone some all) (ranges_of_filter filter) → (sites : List Site)
    → comp_filter_holds (with_rows object zone some) filter sites ≡ comp_filter_holds (with_rows object zone all) filter sites

-- the tests of a filter's components
abbrev all_hold : Matched → List CompFilter → List Site → Bool
all_hold matched comps sites = list_all (λ (inner : List Site → Bool). inner sites) (map (comp_filter_holds matched) comps)

abbrev pub AreAgreed : Object → ZoneTable → List Row → List Row → List CompFilter → Type 0
AreAgreed object zone some all comps =
    AllByRecursion (IsSame object zone some all) (joined (map ranges_of_filter comps)) → (sites : List Site)
    → all_hold (with_rows object zone some) comps sites ≡ all_hold (with_rows object zone all) comps sites

agreed_list : (object : Object) (zone : ZoneTable) (some all : List Row) (es : List ((filter : CompFilter) × IsAgreed object zone some all filter)) → AreAgreed object zone some all (map (λ e. e.0) es)
agreed_list object zone some all [] same sites = refl
agreed_list object zone some all (e ∷ es) same sites =
    let first = e.1 (all_front (IsSame object zone some all) (ranges_of_filter e.0) (joined (map ranges_of_filter (map (λ d. d.0) es))) same) sites in
    let rest = agreed_list object zone some all es (all_back (IsSame object zone some all) (ranges_of_filter e.0) (joined (map ranges_of_filter (map (λ d. d.0) es))) same) sites in
    rw first (ap (λ t. comp_filter_holds (with_rows object zone all) e.0 sites && t) rest)

time_agreed : (object : Object) (zone : ZoneTable) (some all : List Row) (time : Option Range) → AllByRecursion (IsSame object zone some all) (option_to_list time) → (site : Site)
    → time_range_passes (with_rows object zone some) time site ≡ time_range_passes (with_rows object zone all) time site
time_agreed object zone some all None same site = refl
time_agreed object zone some all (Some range) same site = same.0 site

-- one level of a filter, with the tests of its components
abbrev level : Matched → CompFilter-F CompFilter → CompFilter-F (List Site → Bool)
level matched x = record { name = x.name; absent = x.absent; time = x.time; props = x.props; comps = map (comp_filter_holds matched) x.comps }

site_agreed : (object : Object) (zone : ZoneTable) (some all : List Row) (x : CompFilter-F CompFilter) → AllByRecursion (IsSame object zone some all) (ranges_step (record { name = x.name; absent = x.absent; time = x.time; props = x.props; comps = map ranges_of_filter x.comps }))
    → AreAgreed object zone some all x.comps → (site : Site)
    → passes_all (with_rows object zone some) (level (with_rows object zone some) x) site ≡ passes_all (with_rows object zone all) (level (with_rows object zone all) x) site
site_agreed object zone some all x same agreed site =
    let props = flat_map (λ (p : PropFilter). ranges_of_test p.test) x.props in
    let comps = joined (map ranges_of_filter x.comps) in
    let time = time_agreed object zone some all x.time (all_front (IsSame object zone some all) (option_to_list x.time) (props ++ comps) same) site in
    let inner = agreed (all_back (IsSame object zone some all) props comps (all_back (IsSame object zone some all) (option_to_list x.time) (props ++ comps) same)) (sites_in site) in
    λ i. has_filter_name x.name site && time i && list_all (prop_filter_holds (with_rows object zone all) site) x.props && inner i

level_agreed : (object : Object) (zone : ZoneTable) (some all : List Row) (x : CompFilter-F CompFilter) → AllByRecursion (IsSame object zone some all) (ranges_step (record { name = x.name; absent = x.absent; time = x.time; props = x.props; comps = map ranges_of_filter x.comps }))
    → AreAgreed object zone some all x.comps → (sites : List Site)
    → comp_step (with_rows object zone some) (level (with_rows object zone some) x) sites ≡ comp_step (with_rows object zone all) (level (with_rows object zone all) x) sites
level_agreed object zone some all x same agreed sites =
    ap (λ t. cond x.absent (not (list_any (has_filter_name x.name) sites)) t)
    (any_agree_all (passes_all (with_rows object zone some) (level (with_rows object zone some) x)) (passes_all (with_rows object zone all) (level (with_rows object zone all) x)) (site_agreed object zone some all x same agreed) sites)

roll_agreed : (object : Object) (zone : ZoneTable) (some all : List Row) (x : CompFilter-F CompFilter) → AreAgreed object zone some all x.comps → IsAgreed object zone some all (roll-CompFilter x)
roll_agreed object zone some all x agreed same sites =
    comp_filter_holds_roll (with_rows object zone some) x sites
    ∙ level_agreed object zone some all x (subst (AllByRecursion (IsSame object zone some all)) (ranges_of_filter_roll x) same) agreed sites
    ∙ sym (comp_filter_holds_roll (with_rows object zone all) x sites)

agreed_filter : (object : Object) (zone : ZoneTable) (some all : List Row) (filter : CompFilter) → IsAgreed object zone some all filter
agreed_filter object zone some all = ind-CompFilter (IsAgreed object zone some all)
    (λ x y is. roll_agreed object zone some all x (subst (λ (z : CompFilter-F CompFilter). AreAgreed object zone some all z.comps) is (agreed_list object zone some all y.comps)))

-- The law. The given rows are rows of the object, and each row of the object that meets a range of the filter is among them: then they tell as much as all rows.
pub matches-enough_rows : (filter : Filter) (object : Object) (zone : ZoneTable) (some all : List Row)
    → ((row : Row) → Contains some row → Contains all row)
    → ((range : Range) → Contains (ranges_of_filter filter.top) range → (row : Row) → Contains all row → row_meets object zone range row ≡ true → Contains some row)
    → matches filter object some zone ≡ matches filter object all zone
matches-enough_rows filter object zone some all sub enough =
    agreed_filter object zone some all filter.top
    (recursion_from_All (IsSame object zone some all) (ranges_of_filter filter.top)
    (λ k range l. range_passes_same object zone (get_or (ranges_of_filter filter.top) k range) some all
    (record { rows_of = sub; meeting = λ row c e. enough (get_or (ranges_of_filter filter.top) k range) (Contains-get_or (ranges_of_filter filter.top) k range l) row c e })))
    (whole_site object ∷ [])

-- so they tell what all rows of the object tell
pub matches-enough_rows_of_object : (filter : Filter) (object : Object) (zone : ZoneTable) (some : List Row)
    → ((row : Row) → Contains some row → Contains (rows object) row)
    → ((range : Range) → Contains (ranges_of_filter filter.top) range → (row : Row) → Contains (rows object) row → row_meets object zone range row ≡ true → Contains some row)
    → matches filter object some zone ≡ matches_object filter object zone
matches-enough_rows_of_object filter object zone some = matches-enough_rows filter object zone some (rows object)
