-- One level of a filter that was made ready, beside one level of the tree that it is matched with.
use Rattle.std.proofs.Common.{◌≡◌, ℕ, ◌<◌, length, get_or, Bool, true, false, not, ◌&&◌, ◌||◌, cond, List, [], ◌∷◌, map, refl, sym, ap, ◌∙◌, arith}
use Rattle.std.specs.List.{list_any, list_all, enumerate_from}
use Rattle.cal_base.specs.declared.line.Node.{Node}
use Rattle.cal_model.specs.declared.filter.CompFilter.{CompFilter}
use Rattle.cal_model.specs.declared.filter.CompFilter.TheOpen.{CompFilter-F}
use Rattle.cal_model.specs.declared.filter.CompFilter.TheViews.{roll-CompFilter, out-CompFilter, out-roll-CompFilter, roll-out-CompFilter}
use Rattle.cal_model.specs.Filters.ComponentRanges.{Matched, Site, site_in, sites_in, time_range_passes}
use Rattle.cal_model.specs.Filters.Matching.{comp_filter_holds, comp_step, has_filter_name, passes_all, prop_filter_holds, prop_test_holds}
use Rattle.cal_model.specs.Objects.ComponentLines.{is_named, children_of, lines_of, has_name, all_of}
use Rattle.cal_model.specs.Words.Lists.{is_empty}
use Rattle.cal_model.proofs.Filters.FilterLemmas.{comp_filter_holds_roll}
use Rattle.cal_model.proofs.Words.ListTests.{any_map, any_agree_all}
use Rattle.filter_eval.specs.declared.prepared.CompTester.{CompTester}
use Rattle.filter_eval.specs.declared.prepared.CompTester.TheViews.{out-CompTester}
use Rattle.filter_eval.specs.declared.prepared.CompTester.TheFolds.{fold_out-CompTester}
use Rattle.filter_eval.specs.declared.props.PropQuestion.{PropQuestion}
use Rattle.filter_eval.specs.declared.props.PropQuestion.TheVariants.{Absent}
use Rattle.filter_eval.specs.declared.props.PropTester.{PropTester}
use Rattle.filter_eval.specs.Passing.{passes_itself, inner_hold, passes_whole}
use Rattle.filter_eval.specs.Tests.{comp_filter_of, filter_step, prop_filter_of, prop_test_of}
use Rattle.std.proofs.lemmas.Bool.{and_from}
use Rattle.filter_eval.proofs.FilteredTests.{all_map, all_broken, any_enumerated, is_empty_filter}

-- the level of the filter that a tester stands for
abbrev pub level_of : CompTester → CompFilter-F CompFilter
level_of tester = record {
  name = (out-CompTester tester).name.now;
  absent = (out-CompTester tester).absent;
  time = (out-CompTester tester).time;
  props = map prop_filter_of (out-CompTester tester).props;
  comps = map comp_filter_of (out-CompTester tester).comps;
}

pub comp_filter_of_out : (tester : CompTester) → comp_filter_of tester ≡ roll-CompFilter (level_of tester)
comp_filter_of_out tester = fold_out-CompTester CompFilter filter_step tester

pub out-comp_filter_of : (tester : CompTester) → out-CompFilter (comp_filter_of tester) ≡ level_of tester
out-comp_filter_of tester = ap out-CompFilter (comp_filter_of_out tester) ∙ out-roll-CompFilter (level_of tester)

-- A tester's test of components side by side, by its level.

abbrev pub own_level : Matched → CompFilter-F CompFilter → CompFilter-F (List Site → Bool)
own_level matched x = record { name = x.name; absent = x.absent; time = x.time; props = x.props; comps = map (comp_filter_holds matched) x.comps }

holds-level : (matched : Matched) (tester : CompTester) (sites : List Site) → comp_filter_holds matched (comp_filter_of tester) sites ≡ comp_step matched (own_level matched (level_of tester)) sites
holds-level matched tester sites =
    ap (λ (f : CompFilter). comp_filter_holds matched f sites) (comp_filter_of_out tester) ∙ comp_filter_holds_roll matched (level_of tester) sites

whole-level : (matched : Matched) (tester : CompTester) (site : Site) → passes_all matched (own_level matched (level_of tester)) site ≡ passes_whole matched (comp_filter_of tester) site
whole-level matched tester site =
    let x = level_of tester in
    ap (λ t. has_filter_name x.name site && time_range_passes matched x.time site && list_all (prop_filter_holds matched site) x.props && t)
    (all_map (λ (inner : List Site → Bool). inner (sites_in site)) (comp_filter_holds matched) x.comps)
    ∙ ap (λ (x : CompFilter-F CompFilter). has_filter_name x.name site && time_range_passes matched x.time site && list_all (prop_filter_holds matched site) x.props && list_all (λ (inner : CompFilter). comp_filter_holds matched inner (sites_in site)) x.comps)
    (sym (out-comp_filter_of tester))

pub holds_absent : (matched : Matched) (tester : CompTester) (sites : List Site) → (out-CompTester tester).absent ≡ true →
    comp_filter_holds matched (comp_filter_of tester) sites ≡ not (list_any (has_filter_name (out-CompTester tester).name.now) sites)
holds_absent matched tester sites absent =
    holds-level matched tester sites
    ∙ ap (λ b. cond b (not (list_any (has_filter_name (level_of tester).name) sites)) (list_any (passes_all matched (own_level matched (level_of tester))) sites)) absent

pub holds_present : (matched : Matched) (tester : CompTester) (sites : List Site) → (out-CompTester tester).absent ≡ false →
    comp_filter_holds matched (comp_filter_of tester) sites ≡ list_any (passes_whole matched (comp_filter_of tester)) sites
holds_present matched tester sites present =
    holds-level matched tester sites
    ∙ ap (λ b. cond b (not (list_any (has_filter_name (level_of tester).name) sites)) (list_any (passes_all matched (own_level matched (level_of tester))) sites)) present
    ∙ any_agree_all (passes_all matched (own_level matched (level_of tester))) (passes_whole matched (comp_filter_of tester)) (whole-level matched tester) sites

-- the components in a component, by their names
pub any_named : (name : List ℕ) (site : Site) → list_any (has_filter_name name) (sites_in site) ≡ list_any (is_named name) (children_of site.node)
any_named name site =
    any_map (has_filter_name name) (site_in site) (enumerate_from 0 (children_of site.node)) ∙ any_enumerated (is_named name) 0 (children_of site.node)

-- the level of a filter that was made ready, from its parts
pub made_ready : (tester : CompTester) (filter : CompFilter) → level_of tester ≡ out-CompFilter filter → comp_filter_of tester ≡ filter
made_ready tester filter same = comp_filter_of_out tester ∙ (ap roll-CompFilter same ∙ roll-out-CompFilter filter)

-- What a component passes whole, step by step.

or_none : (b : Bool) → (b || false) ≡ b
or_none true = refl
or_none false = refl

-- that the components in it hold the filter of a tester
abbrev pub inner_test : Matched → Site → CompTester → Bool
inner_test matched site tester = comp_filter_holds matched (comp_filter_of tester) (sites_in site)

pub inner_hold_of : (matched : Matched) (tester : CompTester) (site : Site) →
    inner_hold matched (out-CompFilter (comp_filter_of tester)).comps site ≡ list_all (inner_test matched site) (out-CompTester tester).comps
inner_hold_of matched tester site =
    ap (λ (x : CompFilter-F CompFilter). list_all (λ (inner : CompFilter). comp_filter_holds matched inner (sites_in site)) x.comps) (out-comp_filter_of tester)
    ∙ all_map (λ (inner : CompFilter). comp_filter_holds matched inner (sites_in site)) comp_filter_of (out-CompTester tester).comps

and_fails : (a b : Bool) → b ≡ false → (a && b) ≡ false
and_fails true b e = e
and_fails false b e = refl

pub itself_fails : (matched : Matched) (tester : CompTester) (site : Site) → passes_itself matched (comp_filter_of tester) site ≡ false → false ≡ passes_whole matched (comp_filter_of tester) site
itself_fails matched tester site fails = sym (ap (λ (b : Bool). b && inner_hold matched (out-CompFilter (comp_filter_of tester)).comps site) fails)

pub inner_fails : (matched : Matched) (tester : CompTester) (site : Site) (i : ℕ) (inner : CompTester) → i < length (out-CompTester tester).comps → inner ≡ get_or (out-CompTester tester).comps i inner →
    inner_test matched site inner ≡ false → false ≡ passes_whole matched (comp_filter_of tester) site
inner_fails matched tester site i inner within here fails =
    sym (and_fails (passes_itself matched (comp_filter_of tester) site) (inner_hold matched (out-CompFilter (comp_filter_of tester)).comps site)
    (inner_hold_of matched tester site ∙ all_broken (inner_test matched site) (out-CompTester tester).comps i inner within here fails))

pub whole_passes : (matched : Matched) (tester : CompTester) (site : Site) → passes_itself matched (comp_filter_of tester) site ≡ true →
    list_all (inner_test matched site) (out-CompTester tester).comps ≡ true → true ≡ passes_whole matched (comp_filter_of tester) site
whole_passes matched tester site itself inner =
    sym (and_from (passes_itself matched (comp_filter_of tester) site) (inner_hold matched (out-CompFilter (comp_filter_of tester)).comps site) itself (inner_hold_of matched tester site ∙ inner))

-- a component's own tests, by the tester
pub itself-level : (matched : Matched) (tester : CompTester) (site : Site) → passes_itself matched (comp_filter_of tester) site
    ≡ (has_filter_name (out-CompTester tester).name.now site && time_range_passes matched (out-CompTester tester).time site && list_all (prop_filter_holds matched site) (map prop_filter_of (out-CompTester tester).props))
itself-level matched tester site =
    ap (λ (x : CompFilter-F CompFilter). has_filter_name x.name site && time_range_passes matched x.time site && list_all (prop_filter_holds matched site) x.props) (out-comp_filter_of tester)

pub absent_holds : (matched : Matched) (tester : CompTester) (site : Site) (node : Node) (has : Bool) → (out-CompTester tester).absent ≡ true → site.node ≡ node →
    has ≡ list_any (is_named (out-CompTester tester).name.now) (children_of node) → not has ≡ comp_filter_holds matched (comp_filter_of tester) (sites_in site)
absent_holds matched tester site node has absent here is =
    ap not (is ∙ ap (λ (n : Node). list_any (is_named (out-CompTester tester).name.now) (children_of n)) (sym here) ∙ sym (any_named (out-CompTester tester).name.now site))
    ∙ sym (holds_absent matched tester (sites_in site) absent)

pub sites_of : (matched : Matched) (tester : CompTester) (site : Site) (node : Node) → site.node ≡ node →
    list_any (passes_whole matched (comp_filter_of tester)) (map (site_in site) (enumerate_from 0 (children_of node))) ≡ list_any (passes_whole matched (comp_filter_of tester)) (sites_in site)
sites_of matched tester site node here = ap (λ (n : Node). list_any (passes_whole matched (comp_filter_of tester)) (map (site_in site) (enumerate_from 0 (children_of n)))) (sym here)

-- the outermost component, by itself

pub outer_absent : (matched : Matched) (tester : CompTester) (site : Site) → (out-CompTester tester).absent ≡ true →
    not (has_filter_name (out-CompTester tester).name.now site) ≡ comp_filter_holds matched (comp_filter_of tester) (site ∷ [])
outer_absent matched tester site absent =
    ap not (sym (or_none (has_filter_name (out-CompTester tester).name.now site))) ∙ sym (holds_absent matched tester (site ∷ []) absent)

pub outer_present : (matched : Matched) (tester : CompTester) (site : Site) → (out-CompTester tester).absent ≡ false →
    passes_whole matched (comp_filter_of tester) site ≡ comp_filter_holds matched (comp_filter_of tester) (site ∷ [])
outer_present matched tester site present =
    sym (or_none (passes_whole matched (comp_filter_of tester) site)) ∙ sym (holds_present matched tester (site ∷ []) present)

-- a component's own tests, one by one

abbrev own_tests : Matched → CompTester → Site → Bool → Bool → Bool
own_tests matched tester site named timed = named && timed && list_all (prop_filter_holds matched site) (map prop_filter_of (out-CompTester tester).props)

itself_by : (matched : Matched) (tester : CompTester) (site : Site) (node : Node) (named timed : Bool) → site.node ≡ node → is_named (out-CompTester tester).name.now node ≡ named →
    time_range_passes matched (out-CompTester tester).time site ≡ timed → passes_itself matched (comp_filter_of tester) site ≡ own_tests matched tester site named timed
itself_by matched tester site node named timed here is_name is_time =
    itself-level matched tester site
    ∙ (λ i. own_tests matched tester site ((ap (is_named (out-CompTester tester).name.now) here ∙ is_name) i) (is_time i))

pub itself_unnamed : (matched : Matched) (tester : CompTester) (site : Site) (node : Node) → site.node ≡ node → is_named (out-CompTester tester).name.now node ≡ false →
    false ≡ passes_itself matched (comp_filter_of tester) site
itself_unnamed matched tester site node here unnamed =
    sym (itself_by matched tester site node false (time_range_passes matched (out-CompTester tester).time site) here unnamed refl)

pub itself_untimed : (matched : Matched) (tester : CompTester) (site : Site) (node : Node) → site.node ≡ node → is_named (out-CompTester tester).name.now node ≡ true →
    time_range_passes matched (out-CompTester tester).time site ≡ false → false ≡ passes_itself matched (comp_filter_of tester) site
itself_untimed matched tester site node here named untimed = sym (itself_by matched tester site node true false here named untimed)

pub itself_is : (matched : Matched) (tester : CompTester) (site : Site) (node : Node) (hold : Bool) → site.node ≡ node → is_named (out-CompTester tester).name.now node ≡ true →
    time_range_passes matched (out-CompTester tester).time site ≡ true → hold ≡ list_all (prop_filter_holds matched site) (map prop_filter_of (out-CompTester tester).props) →
    hold ≡ passes_itself matched (comp_filter_of tester) site
itself_is matched tester site node hold here named timed is = is ∙ sym (itself_by matched tester site node true true here named timed)

-- a property that is not to be there
pub prop_absent : (matched : Matched) (site : Site) (tester : PropTester) (node : Node) (has : Bool) → tester.question ≡ Absent → site.node ≡ node →
    has ≡ list_any (has_name tester.name.now) (lines_of node) → not has ≡ prop_filter_holds matched site (prop_filter_of tester)
prop_absent matched site tester node has absent here is =
    ap not is
    ∙ (sym (is_empty_filter (has_name tester.name.now) (lines_of node))
    ∙ (ap (λ (n : Node). is_empty (all_of tester.name.now (lines_of n))) (sym here)
    ∙ ap (λ (q : PropQuestion). prop_test_holds matched site (prop_filter_of tester) (prop_test_of q)) (sym absent)))

pub none_left : (p : Site → Bool) (site : Site) (place : ℕ) (rest : List Node) (all : Bool) → length rest ≡ 0 → list_any p (map (site_in site) (enumerate_from place rest)) ≡ all → false ≡ all
none_left p site place [] all none is = is
none_left p site place (node ∷ rest) all none is = absurd (omega arith)
