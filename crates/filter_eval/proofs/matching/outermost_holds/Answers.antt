use Rattle.std.proofs.Common.{refl, ap, not, ◌∙◌}
use Rattle.std.proofs.lemmas.Result.{IfOk-weaker}
use Rattle.cal_model.specs.Filters.ComponentRanges.{whole_site}
use Rattle.filter_eval.specs.Places.{matched_of}
use Rattle.filter_eval.proofs.MatchSteps.{outer_absent, outer_present}
use Rattle.filter_eval.proofs.matching.outermost_holds.Goals as goal

pub returns-then-tester : goal.returns-then-tester
returns-then-tester c = ap not c.node_is_named.ensures ∙ outer_absent (matched_of c.args.subject.now) c.args.tester.now (whole_site c.args.subject.now.object.now) c.if-tester.true

pub returns : goal.returns
returns c = IfOk-weaker c.passes.result _ _
    (λ holds is. is (whole_site c.args.subject.now.object.now) (record { node = refl; stands = refl; place = refl; timezone = refl })
    ∙ outer_present (matched_of c.args.subject.now) c.args.tester.now (whole_site c.args.subject.now.object.now) c.if-tester.false)
    c.passes.ensures
