-- The filters that tests which were made ready stand for.
use Rattle.std.specs.Prelude.{map}
use Rattle.cal_model.specs.declared.filter.CompFilter.{CompFilter}
use Rattle.cal_model.specs.declared.filter.CompFilter.TheViews.{roll-CompFilter}
use Rattle.cal_model.specs.declared.filter.ParamFilter.{ParamFilter}
use Rattle.cal_model.specs.declared.filter.ParamTest.{ParamTest}
use Rattle.cal_model.specs.declared.filter.ParamTest.TheVariants as param
use Rattle.cal_model.specs.declared.filter.PropFilter.{PropFilter}
use Rattle.cal_model.specs.declared.filter.PropTest.{PropTest}
use Rattle.cal_model.specs.declared.filter.PropTest.TheVariants as prop
use Rattle.filter_eval.specs.declared.params.ParamQuestion.{ParamQuestion}
use Rattle.filter_eval.specs.declared.params.ParamQuestion.TheVariants as param_question
use Rattle.filter_eval.specs.declared.params.ParamTester.{ParamTester}
use Rattle.filter_eval.specs.declared.props.PropQuestion.{PropQuestion}
use Rattle.filter_eval.specs.declared.props.PropQuestion.TheVariants as prop_question
use Rattle.filter_eval.specs.declared.props.PropTester.{PropTester}
use Rattle.filter_eval.specs.declared.prepared.CompTester.{CompTester}
use Rattle.filter_eval.specs.declared.prepared.CompTester.TheOpen.{CompTester-F}
use Rattle.filter_eval.specs.declared.prepared.CompTester.TheFolds.{fold-CompTester}

abbrev pub param_test_of : ParamQuestion → ParamTest
param_test_of param_question.Absent = param.Absent
param_test_of param_question.Defined = param.Defined
param_test_of (param_question.Text test) = param.Text test

abbrev pub param_filter_of : ParamTester → ParamFilter
param_filter_of tester = record { name = tester.name.now; test = param_test_of tester.question }

abbrev pub prop_test_of : PropQuestion → PropTest
prop_test_of prop_question.Absent = prop.Absent
prop_test_of prop_question.Defined = prop.Defined
prop_test_of (prop_question.Time range) = prop.Time range
prop_test_of (prop_question.Text test) = prop.Text test

abbrev pub prop_filter_of : PropTester → PropFilter
prop_filter_of tester = record { name = tester.name.now; test = prop_test_of tester.question; params = map param_filter_of tester.params }

abbrev pub filter_step : CompTester-F CompFilter → CompFilter
filter_step tester = roll-CompFilter (record {
  name = tester.name.now;
  absent = tester.absent;
  time = tester.time;
  props = map prop_filter_of tester.props;
  comps = tester.comps;
})

abbrev pub comp_filter_of : CompTester → CompFilter
comp_filter_of = fold-CompTester CompFilter filter_step
