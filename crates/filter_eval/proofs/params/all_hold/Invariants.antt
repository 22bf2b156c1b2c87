use Rattle.std.proofs.Common.{◌≡◌, true, take}
use Rattle.std.specs.List.{list_all}
use Rattle.cal_model.specs.Filters.TextTests.{param_filter_holds}
use Rattle.filter_eval.specs.ReadyTexts.{params_in}
use Rattle.filter_eval.specs.Tests.{param_filter_of}
use Rattle.filter_eval.specs.declared.params.ParamTester.{ParamTester}
use Rattle.filter_eval.proofs.params.all_hold.Given as goal

-- the tests so far hold
abbrev pub invariant-testers : goal.invariant-testers
invariant-testers l = list_all (λ (tester : ParamTester). param_filter_holds (params_in l.params) (param_filter_of tester)) (take l.tester-index l.tester-items) ≡ true
