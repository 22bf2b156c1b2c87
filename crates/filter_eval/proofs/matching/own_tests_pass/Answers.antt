use Rattle.std.proofs.Common.{sym, ◌∙◌}
use Rattle.std.proofs.lemmas.Result.{IfOk-weaker}
use Rattle.filter_eval.specs.Places.{matched_of}
use Rattle.filter_eval.proofs.MatchSteps.{itself_unnamed, itself_untimed, itself_is}
use Rattle.filter_eval.proofs.matching.own_tests_pass.Goals as goal

pub returns-then-not-node_is_named : goal.returns-then-not-node_is_named
returns-then-not-node_is_named c = λ site at.
    itself_unnamed (matched_of c.args.subject.now) c.args.tester.now site c.args.spot.now.node.now at.node (sym c.node_is_named.ensures ∙ c.if-not-node_is_named.true)

pub returns-then-not-time_passes : goal.returns-then-not-time_passes
returns-then-not-time_passes c = λ site at.
    itself_untimed (matched_of c.args.subject.now) c.args.tester.now site c.args.spot.now.node.now at.node (sym c.node_is_named.ensures ∙ c.if-not-node_is_named.false)
    (sym (c.time_passes.ensures site at) ∙ c.if-not-time_passes.true)

pub returns : goal.returns
returns c = IfOk-weaker c.all_props_hold.result _ _
    (λ hold is site at. itself_is (matched_of c.args.subject.now) c.args.tester.now site c.args.spot.now.node.now hold at.node (sym c.node_is_named.ensures ∙ c.if-not-node_is_named.false)
    (sym (c.time_passes.ensures site at) ∙ c.if-not-time_passes.false) (is site at))
    c.all_props_hold.ensures
