use denote.Param.Send.{sendable}
use Rattle.cal_book.proofs.Moves.{book_send}
use Rattle.cases_server.proofs.threads.print_race.Goals as goal

pub serve_both-first-requires-send-B : goal.serve_both-first-requires-send-B
serve_both-first-requires-send-B g c κs within = search (sendable, book_send)
