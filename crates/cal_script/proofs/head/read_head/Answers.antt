use Rattle.cal_script.proofs.HeadLemmas.{is_not_bytes, no_head_without_blank, no_head_by_word}
use Rattle.cal_script.proofs.head.read_head.Goals as goal

pub returns-in_default : goal.returns-in_default
returns-in_default c = no_head_without_blank c.args.line.now c.in_default.ensures

pub returns-in_default-action_of : goal.returns-in_default-action_of
returns-in_default-action_of c =
    no_head_by_word _ _ _ (record { cut = c.in-Some.ensures }) (is_not_bytes _ _ c.eq.result c.eq.ensures c.as_slice.ensures c.if-eq.false) c.in_default-action_of.ensures
