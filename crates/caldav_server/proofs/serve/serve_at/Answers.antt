use denote.Param.Send.{sendable}
use Rattle.cal_book.proofs.Moves.{book_send}
use Rattle.caldav_server.proofs.serve.serve_at.Goals as goal

pub serve_desk-result-requires-send-B : goal.serve_desk-result-requires-send-B
serve_desk-result-requires-send-B g c κs within = search (sendable, book_send)
