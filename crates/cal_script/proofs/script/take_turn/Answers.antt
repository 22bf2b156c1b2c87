use Rattle.cal_script.proofs.ScriptLemmas.{took_worker, worker_entered}
use Rattle.cal_script.proofs.script.take_turn.Goals as goal

pub returns-in-Bytes-clause-entered : goal.returns-in-Bytes-clause-entered
returns-in-Bytes-clause-entered g c = λ standing stands. rw c.in-Bytes.is (c.take_bytes.ensures.entered standing stands)

pub returns-in-Worker-clause-turn : goal.returns-in-Worker-clause-turn
returns-in-Worker-clause-turn g c = λ standing stands. rw c.in-Worker.is (took_worker _ standing _ c.in-Worker.action c.in-Worker.slot _ (c.take_action.ensures.stands standing stands))

pub returns-in-Worker-clause-entered : goal.returns-in-Worker-clause-entered
returns-in-Worker-clause-entered g c = λ standing stands. rw c.in-Worker.is (worker_entered _ standing.streams c.in-Worker.action c.in-Worker.slot _ _ c.take_action.ensures.journal)
