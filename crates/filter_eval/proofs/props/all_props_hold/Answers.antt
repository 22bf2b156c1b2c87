use Rattle.std.proofs.Common.{map, ap, sym, ◌∙◌, List}
use Rattle.std.specs.List.{list_all}
use Rattle.std.proofs.lemmas.List.{take_all}
use Rattle.cal_model.specs.Filters.Matching.{prop_filter_holds}
use Rattle.filter_eval.specs.Places.{matched_of}
use Rattle.filter_eval.specs.Tests.{prop_filter_of}
use Rattle.filter_eval.specs.declared.props.PropTester.{PropTester}
use Rattle.filter_eval.proofs.FilteredTests.{all_map, all_broken}
use Rattle.filter_eval.proofs.props.all_props_hold.Goals as goal

pub returns-then-not-holds : goal.returns-then-not-holds
returns-then-not-holds c = λ site at.
    sym (all_map (prop_filter_holds (matched_of c.args.subject.now) site) prop_filter_of c.as_slice-tester-items.result.now
    ∙ all_broken (λ (tester : PropTester). prop_filter_holds (matched_of c.args.subject.now) site (prop_filter_of tester)) c.as_slice-tester-items.result.now c.testers.tester-index c.tester-item.result c.testers-test.true c.tester-item.is
    (sym (c.in_ok-holds.ensures site at) ∙ c.if-not-holds.true))
    ∙ ap (λ (testers : List PropTester). list_all (prop_filter_holds (matched_of c.args.subject.now) site) (map prop_filter_of testers)) c.as_slice-tester-items.ensures

pub returns : goal.returns
returns c = λ site at.
    sym (all_map (prop_filter_holds (matched_of c.args.subject.now) site) prop_filter_of c.as_slice-tester-items.result.now
    ∙ (ap (list_all (λ (tester : PropTester). prop_filter_holds (matched_of c.args.subject.now) site (prop_filter_of tester))) (sym (take_all c.testers.tester-index c.as_slice-tester-items.result.now c.testers-test.false)) ∙ c.testers.invariant site at))
    ∙ ap (λ (testers : List PropTester). list_all (prop_filter_holds (matched_of c.args.subject.now) site) (map prop_filter_of testers)) c.as_slice-tester-items.ensures
