use denote.Param.Send.{sendable}
use Rattle.cal_book.proofs.Moves.{book_send}
use Rattle.cases_server.proofs.looks.print_three.Goals as goal

pub report_beside-first-requires-send-B : goal.report_beside-first-requires-send-B
report_beside-first-requires-send-B g c κs within = search (sendable, book_send)
