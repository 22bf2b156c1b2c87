use Rattle.cal_session.proofs.EndLaws.{looked_none}
use Rattle.cal_session.proofs.turn.tell_rest.Goals as goal

pub returns-then-is_told : goal.returns-then-is_told
returns-then-is_told g c = looked_none c.args.pass.now
