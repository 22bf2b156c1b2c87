use denote.Param.Send.{sendable}
use Rattle.cal_keeper.proofs.memory_disk.MemoryDisk.TheSendSync as disk
use Rattle.cal_session.proofs.KeptMoves.{kept_send}
use Rattle.cases_server.proofs.journal_threads.race_of.Goals as goal

pub serve_both-first-requires-send-B : goal.serve_both-first-requires-send-B
serve_both-first-requires-send-B g c κs within = search (sendable, kept_send, disk.the_send)
