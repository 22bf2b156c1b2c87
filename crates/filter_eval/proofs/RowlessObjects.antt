-- An object without rows matches no filter that needs one.
use Rattle.std.proofs.Common.{◌≡◌, ℕ, Bool, true, false, not, ◌&&◌, ◌||◌, cond, List, [], ◌∷◌, Option, Some, None, is_some, codes, refl, sym, ap, ◌∙◌}
use Rattle.std.specs.List.{list_any, list_all, enumerate_from}
use Rattle.std.specs.Str.{bytes_eq}
use Rattle.std.proofs.lemmas.Bool.{false≢true, and_parts}
use Rattle.std.proofs.lemmas.Slice.Eq.{bytes_eq-Decides}
use Rattle.cal_base.specs.declared.line.Node.{Node}
use Rattle.cal_model.specs.declared.filter.CompFilter.{CompFilter}
use Rattle.cal_model.specs.declared.filter.CompFilter.TheViews.{out-CompFilter, roll-out-CompFilter}
use Rattle.cal_model.specs.declared.filter.Filter.{Filter}
use Rattle.cal_model.specs.declared.object.Object.{Object}
use Rattle.cal_model.specs.declared.row.Range.{Range}
use Rattle.cal_model.specs.declared.zone.ZoneTable.{ZoneTable}
use Rattle.cal_model.specs.Filters.ComponentRanges.{Matched, Site, component_at, component_passes, range_passes, site_in, sites_in, time_range_passes, valarm_passes, whole_site}
use Rattle.cal_model.specs.Filters.Matching.{comp_filter_holds, comp_step, has_filter_name, matches, passes_all, prop_filter_holds}
use Rattle.cal_model.specs.Objects.ComponentLines.{children_of, name_of}
use Rattle.cal_model.specs.Objects.ComponentReading.{is_alarm}
use Rattle.cal_model.proofs.Filters.FilterLemmas.{comp_filter_holds_roll}
use Rattle.cal_model.proofs.Words.ListTests.{any_constant, any_map}
use Rattle.filter_eval.specs.NeededRows.{asks_row, needs_row}
use Rattle.filter_eval.proofs.FilteredTests.{all_map}
use Rattle.filter_eval.proofs.MatchSteps.{own_level}

abbrev rowless : Object → ZoneTable → Matched
rowless object zone = record { object = object; rows = []; zone = zone }

holds_out : (matched : Matched) (filter : CompFilter) (sites : List Site) → comp_filter_holds matched filter sites ≡ comp_step matched (own_level matched (out-CompFilter filter)) sites
holds_out matched filter sites =
    ap (λ (f : CompFilter). comp_filter_holds matched f sites) (sym (roll-out-CompFilter filter)) ∙ comp_filter_holds_roll matched (out-CompFilter filter) sites

-- a component of the four kinds passes no range
range_missed : (object : Object) (zone : ZoneTable) (range : Range) (child : ℕ × Node) → is_alarm child.1 ≡ false
    → range_passes (rowless object zone) range (site_in (whole_site object) child) ≡ false
range_missed object zone range child other =
    ap (λ b. cond b (valarm_passes (rowless object zone) range (site_in (whole_site object) child) []) (list_any (component_passes (rowless object zone) range) (component_at object child.0))) other
    ∙ any_constant (component_passes (rowless object zone) range) false (λ n. refl) (component_at object child.0)

time_missed : (object : Object) (zone : ZoneTable) (time : Option Range) (child : ℕ × Node) → is_some time ≡ true → is_alarm child.1 ≡ false
    → time_range_passes (rowless object zone) time (site_in (whole_site object) child) ≡ false
time_missed object zone None child some other = absurd (false≢true some)
time_missed object zone (Some range) child some other = range_missed object zone range child other

-- what has the name of a comp-filter that needs a row is no VALARM
no_alarm : (name : List ℕ) (node : Node) → bytes_eq (name_of node) name ≡ true → bytes_eq name (codes "VALARM") ≡ false → is_alarm node ≡ false
no_alarm name node named other = ap (λ (own : List ℕ). bytes_eq own (codes "VALARM")) ((bytes_eq-Decides (name_of node) name).0 named) ∙ other

and_second : (a b c d : Bool) → (a ≡ true → b ≡ false) → (a && b && c && d) ≡ false
and_second false b c d fails = refl
and_second true b c d fails = ap (λ t. t && c && d) (fails refl)

not_true : (b : Bool) → not b ≡ true → b ≡ false
not_true true e = sym e
not_true false e = refl

inner_missed : (object : Object) (zone : ZoneTable) (filter : CompFilter) → asks_row filter ≡ true → comp_filter_holds (rowless object zone) filter (sites_in (whole_site object)) ≡ false
inner_missed object zone filter asks =
    let matched = rowless object zone in
    let level = own_level matched (out-CompFilter filter) in
    let parts = and_parts (not level.absent && is_some level.time) (not (bytes_eq level.name (codes "VALARM"))) asks in
    let front = and_parts (not level.absent) (is_some level.time) parts.0 in
    let children = enumerate_from 0 (children_of object.tree) in
    let missed : (child : ℕ × Node) → passes_all matched level (site_in (whole_site object) child) ≡ false = λ child.
    let site = site_in (whole_site object) child in
    and_second (has_filter_name level.name site) (time_range_passes matched level.time site) (list_all (prop_filter_holds matched site) level.props) (list_all (λ (inner : List Site → Bool). inner (sites_in site)) level.comps)
    (λ named. time_missed object zone level.time child front.1 (no_alarm level.name child.1 named (not_true _ parts.1))) in
    holds_out matched filter (sites_in (whole_site object))
    ∙ ap (λ b. cond b (not (list_any (has_filter_name level.name) (sites_in (whole_site object)))) (list_any (passes_all matched level) (sites_in (whole_site object)))) (not_true level.absent front.0)
    ∙ any_map (passes_all matched level) (site_in (whole_site object)) children
    ∙ any_constant (λ child. passes_all matched level (site_in (whole_site object) child)) false missed children

and_false : (a b : Bool) → b ≡ false → (a && b) ≡ false
and_false true b e = e
and_false false b e = refl

some_fails : {X : Type 0} (p q : X → Bool) → ((x : X) → q x ≡ true → p x ≡ false) → (xs : List X) → list_any q xs ≡ true → list_all p xs ≡ false
some_fails p q fails [] some = absurd (false≢true some)
some_fails p q fails (x ∷ xs) some = by (q x) refl (some_fails p q fails xs) some where
  by : (b : Bool) → q x ≡ b → (list_any q xs ≡ true → list_all p xs ≡ false) → (b || list_any q xs) ≡ true → (p x && list_all p xs) ≡ false
  by true e later some = ap (λ t. t && list_all p xs) (fails x e)
  by false e later some = and_false (p x) (list_all p xs) (later some)

last_fails : (a b c d : Bool) → d ≡ false → ((a && b && c && d) || false) ≡ false
last_fails false b c d e = refl
last_fails true false c d e = refl
last_fails true true false d e = refl
last_fails true true true d e = ap (λ t. t || false) e

pub matches-rowless : (filter : Filter) (object : Object) (zone : ZoneTable) → needs_row filter.top ≡ true → matches filter object [] zone ≡ false
matches-rowless filter object zone needs =
    let matched = rowless object zone in
    let whole = whole_site object in
    let level = own_level matched (out-CompFilter filter.top) in
    let parts = and_parts (not level.absent) (list_any asks_row (out-CompFilter filter.top).comps) needs in
    holds_out matched filter.top (whole ∷ [])
    ∙ ap (λ b. cond b (not (list_any (has_filter_name level.name) (whole ∷ []))) (list_any (passes_all matched level) (whole ∷ []))) (not_true level.absent parts.0)
    ∙ last_fails (has_filter_name level.name whole) (time_range_passes matched level.time whole) (list_all (prop_filter_holds matched whole) level.props) _
    (all_map (λ (inner : List Site → Bool). inner (sites_in whole)) (comp_filter_holds matched) (out-CompFilter filter.top).comps
    ∙ some_fails (λ (inner : CompFilter). comp_filter_holds matched inner (sites_in whole)) asks_row (inner_missed object zone) (out-CompFilter filter.top).comps parts.1)
