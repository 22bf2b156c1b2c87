use Rattle.std.proofs.Common.{◌+◌, List, cond, length, map, take, ap, sym, ◌∙◌, arith, rules}
use Rattle.std.specs.List.{list_any, list_all, enumerate_from}
use Rattle.std.proofs.lemmas.List.{take_all}
use Rattle.cal_base.specs.declared.line.Node.{Node}
use Rattle.cal_model.specs.Filters.ComponentRanges.{has_trigger, site_in, sites_in}
use Rattle.cal_model.specs.Objects.ComponentLines.{children_of, is_named}
use Rattle.cal_model.specs.declared.filter.CompFilter.{CompFilter}
use Rattle.cal_model.specs.Filters.Matching.{comp_filter_holds}
use Rattle.filter_eval.specs.Passing.{passes_whole}
use Rattle.filter_eval.specs.Places.{matched_of}
use Rattle.filter_eval.specs.Tests.{comp_filter_of}
use Rattle.filter_eval.specs.declared.prepared.CompTester.TheViews.{out-CompTester}
use Rattle.filter_eval.proofs.FilteredTests.{any_met, any_missed, all_map}
use Rattle.filter_eval.proofs.SeenPlaces.{at_front, alarms_more}
use Rattle.filter_eval.proofs.MatchSteps.{inner_fails, whole_passes, absent_holds, holds_present, inner_test, none_left}
use Rattle.filter_eval.proofs.matching.+matching.Goals as goal

pub passes-returns-then-not-holds : goal.passes-returns-then-not-holds
passes-returns-then-not-holds t c = λ site at.
    let e = c.as_slice-inner-items.ensures in
    inner_fails (matched_of c.args.subject.now) c.args.tester.now site c.comps.inner-index c.inner-item.result (rw e at c.comps-test.true) (rw e at c.inner-item.is)
    (sym (c.in_ok-holds.ensures site at) ∙ c.if-not-holds.true)

pub passes-returns : goal.passes-returns
passes-returns t c = λ site at.
    whole_passes (matched_of c.args.subject.now) c.args.tester.now site (sym (c.in_ok-passed.ensures site at) ∙ c.if-not-passed.false)
    (ap (list_all (inner_test (matched_of c.args.subject.now) site)) (sym c.as_slice-inner-items.ensures ∙ sym (take_all c.comps.inner-index c.as_slice-inner-items.result.now c.comps-test.false))
    ∙ (sym (all_map (λ (inner : CompFilter). comp_filter_holds (matched_of c.args.subject.now) inner (sites_in site)) comp_filter_of (take c.comps.inner-index c.as_slice-inner-items.result.now))
    ∙ c.comps.invariant site at))

pub some_inner_passes-returns-then-tester : goal.some_inner_passes-returns-then-tester
some_inner_passes-returns-then-tester t c = λ site at.
    absent_holds (matched_of c.args.subject.now) c.args.tester.now site c.args.spot.now.node.now c.has_node.result c.if-tester.true at.node
    (c.has_node.ensures ∙ ap (λ (nodes : List Node). list_any (is_named (out-CompTester c.args.tester.now).name.now) nodes) c.as_slice-rest.ensures)

pub some_inner_passes-children-preserved : goal.some_inner_passes-children-preserved
some_inner_passes-children-preserved t c =
    let e = c.in-Some.ensures.cases.0 in
    let node = c.args.spot.now.node.now in
    let place = c.children.place in
    let child = c.in-Some.child.now in
    let front = rw e at c.children.invariant.front in
    let here = at_front (children_of node) place child c.in-Some.behind.now front in
    record {
      numbers = omega (arith, ap length e, c.children.invariant.numbers);
      front = here.next;
      before = λ counts. c.count_with-alarms.ensures.more counts ∙ (ap (λ n. n + cond (has_trigger child) 1 0) (c.children.invariant.before counts) ∙ sym (alarms_more node place child c.in-Some.behind.now front));
      few = omega (arith, c.children.invariant.few, c.count_with-alarms.ensures.few);
      same = λ site at.
          any_missed (passes_whole (matched_of c.args.subject.now) (comp_filter_of c.args.tester.now)) (site_in site (place, child)) (map (site_in site) (enumerate_from (place + 1) c.in-Some.behind.now)) _
          ((rw e at c.children.invariant.same) site at)
          (sym (c.in_ok-passed.ensures (site_in site (place, child)) (c.inner_spot-inner.ensures.stands c.args.subject.now.object.now site at here.found (λ child. c.children.invariant.before (c.is_child-counts.ensures ∙ child)))) ∙ c.if-passed.false);
    }

pub some_inner_passes-passes-requires : goal.some_inner_passes-passes-requires
some_inner_passes-passes-requires t c =
    let e = c.in-Some.ensures.cases.0 in
    let here = at_front (children_of c.args.spot.now.node.now) c.children.place c.in-Some.child.now c.in-Some.behind.now (rw e at c.children.invariant.front) in
    (search rules, (c.requires.ready, c.inner_spot-inner.ensures.texts c.requires.texts here.found))

pub some_inner_passes-returns-then-passed : goal.some_inner_passes-returns-then-passed
some_inner_passes-returns-then-passed t c = λ site at.
    let e = c.in-Some.ensures.cases.0 in
    any_met (passes_whole (matched_of c.args.subject.now) (comp_filter_of c.args.tester.now)) (site_in site (c.children.place, c.in-Some.child.now)) (map (site_in site) (enumerate_from (c.children.place + 1) c.in-Some.behind.now)) _
    ((rw e at c.children.invariant.same) site at) (sym (c.in_ok-passed.ensures (site_in site (c.children.place, c.in-Some.child.now)) (c.inner_spot-inner.ensures.stands c.args.subject.now.object.now site at (at_front (children_of c.args.spot.now.node.now) c.children.place c.in-Some.child.now c.in-Some.behind.now (rw e at c.children.invariant.front)).found (λ child. c.children.invariant.before (c.is_child-counts.ensures ∙ child)))) ∙ c.if-passed.true)
    ∙ sym (holds_present (matched_of c.args.subject.now) c.args.tester.now (sites_in site) c.if-tester.false)

pub some_inner_passes-returns : goal.some_inner_passes-returns
some_inner_passes-returns t c = λ site at.
    none_left (passes_whole (matched_of c.args.subject.now) (comp_filter_of c.args.tester.now)) site c.children.place c.children.rest.now _ c.in_default.ensures.cases (c.children.invariant.same site at)
    ∙ sym (holds_present (matched_of c.args.subject.now) c.args.tester.now (sites_in site) c.if-tester.false)
