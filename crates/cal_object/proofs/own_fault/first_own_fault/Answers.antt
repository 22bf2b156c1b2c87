use Rattle.std.proofs.Common.{◌∙◌, sym}
use Rattle.std.proofs.lemmas.Result.{IfOk-weaker}
use Rattle.cal_object.proofs.NestedLines.{nested}
use Rattle.cal_object.proofs.OwnFaultWalk.{own_number-from_front}
use Rattle.cal_object.proofs.own_fault.first_own_fault.Goals as goal

pub returns : goal.returns
returns c =
    IfOk-weaker c.first_failing.result _ _ (λ number is none. is ∙ sym (own_number-from_front c.args.lines.now (nested c.args.lines.now none))) c.first_failing.ensures
