use Rattle.std.proofs.Common.{map, ap, sym, ◌∙◌, List}
use Rattle.std.specs.List.{list_all}
use Rattle.std.proofs.lemmas.List.{take_all}
use Rattle.cal_model.specs.Filters.TextTests.{param_filter_holds}
use Rattle.filter_eval.specs.ReadyTexts.{params_in}
use Rattle.filter_eval.specs.Tests.{param_filter_of}
use Rattle.filter_eval.specs.declared.params.ParamTester.{ParamTester}
use Rattle.filter_eval.proofs.FilteredTests.{all_map, all_broken}
use Rattle.filter_eval.proofs.params.all_hold.Goals as goal

pub returns-then-not-holds : goal.returns-then-not-holds
returns-then-not-holds c =
    sym (all_map (param_filter_holds (params_in c.args.params.now)) param_filter_of c.as_slice-tester-items.result.now
    ∙ all_broken (λ (tester : ParamTester). param_filter_holds (params_in c.args.params.now) (param_filter_of tester)) c.as_slice-tester-items.result.now c.testers.tester-index c.tester-item.result c.testers-test.true c.tester-item.is
    (sym (c.in_ok-holds.ensures) ∙ c.if-not-holds.true))
    ∙ ap (λ (testers : List ParamTester). list_all (param_filter_holds (params_in c.args.params.now)) (map param_filter_of testers)) c.as_slice-tester-items.ensures

pub returns : goal.returns
returns c =
    sym (all_map (param_filter_holds (params_in c.args.params.now)) param_filter_of c.as_slice-tester-items.result.now
    ∙ (ap (list_all (λ (tester : ParamTester). param_filter_holds (params_in c.args.params.now) (param_filter_of tester))) (sym (take_all c.testers.tester-index c.as_slice-tester-items.result.now c.testers-test.false)) ∙ c.testers.invariant))
    ∙ ap (λ (testers : List ParamTester). list_all (param_filter_holds (params_in c.args.params.now)) (map param_filter_of testers)) c.as_slice-tester-items.ensures
