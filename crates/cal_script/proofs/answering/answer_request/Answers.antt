use Rattle.cal_script.proofs.AnsweringLemmas.{wrote_answer, wrote_answer_in_part, wrote_no_answer}
use Rattle.cal_script.proofs.answering.answer_request.Goals as goal

pub returns-in-Ok-write_frame-clause-whole : goal.returns-in-Ok-write_frame-clause-whole
returns-in-Ok-write_frame-clause-whole g c = wrote_answer _ _ _ _ _ _ _ _ _ _ _ c.as_slice.ensures c.in-Ok.ensures.answered c.in-Ok-write_frame.ensures.whole

pub returns-in-Ok-clause-stopped : goal.returns-in-Ok-clause-stopped
returns-in-Ok-clause-stopped g c = wrote_answer_in_part _ _ _ _ _ _ _ _ _ _ _ c.as_slice.ensures c.in-Ok.ensures.answered c.write_frame.ensures.front

pub returns-in-Err-Unwritten-clause-stopped : goal.returns-in-Err-Unwritten-clause-stopped
returns-in-Err-Unwritten-clause-stopped g c = wrote_no_answer _ _ _ _ _ _ _
