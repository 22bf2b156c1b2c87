use Rattle.std.proofs.Common.{◌≡◌, ap, sym, ◌∙◌, subst, is_some, Err}
use Rattle.std.specs.Prelude.{IfOk}
use Rattle.cal_model.specs.Values.RuleTexts.{rule_of}
use Rattle.cal_object.proofs.value_tests.is_rule.Goals as goal
use Rattle.cal_object.proofs.value_tests.is_rule.Goals.{in-Ok, in-Err-Bad, in-Err-NoMemory}

pub returns : goal.returns
returns c =
    elim c.match-read_rule.branch [
      | in-Ok w ↦ subst (λ r. IfOk r (λ good. good ≡ is_some (rule_of c.args.text.now))) (sym w.result-is) (sym (ap is_some w.in-Ok.ensures.ok))
      | in-Err-Bad w ↦ subst (λ r. IfOk r (λ good. good ≡ is_some (rule_of c.args.text.now))) (sym w.result-is) (sym (ap is_some (c.read_rule.ensures.outside w.in-Err-Bad.field-0-0 (w.in-Err-Bad.is ∙ ap Err w.in-Err-Bad.field-0-is))))
      | in-Err-NoMemory w ↦ subst (λ r. IfOk r (λ good. good ≡ is_some (rule_of c.args.text.now))) (sym w.result-is) tt
    ]
