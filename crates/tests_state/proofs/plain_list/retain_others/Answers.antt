use Rattle.std.proofs.lemmas.Fn.{filter_same}
use Rattle.std.proofs.Common.{rules}
use Rattle.cal_model.specs.Pieces.PieceLists.{is_other_piece}
use Rattle.tests_state.proofs.plain_list.retain_others.Goals as goal

pub returns : goal.returns
returns c = filter_same _ (is_other_piece c.args.origin) _ (λ x b f h. search rules) _ _ c.retain.ensures.filtered
