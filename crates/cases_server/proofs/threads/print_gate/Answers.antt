use denote.Param.Send.{sendable}
use Rattle.cal_book.proofs.Moves.{book_send}
use Rattle.cases_server.proofs.threads.print_gate.Goals as goal

pub answer_beside-first-requires-send-B : goal.answer_beside-first-requires-send-B
answer_beside-first-requires-send-B g c κs within = search (sendable, book_send)
