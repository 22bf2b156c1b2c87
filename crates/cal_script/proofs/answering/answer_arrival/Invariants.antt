use Rattle.std.proofs.Common.{◌≡◌, ℕ, List, ◌≤◌}
use Rattle.cal_book.specs.Cores.{state_in}
use Rattle.cal_script.specs.Answering.{IsBookOf}
use Rattle.cal_script.specs.Readings.{Rests, may_come}
use Rattle.cal_script.proofs.AnsweringLemmas.{HasAnsweredSoFar}
use Rattle.cal_script.proofs.EnteringLemmas.{HasGoneOn}
use Rattle.cal_script.proofs.answering.answer_arrival.Given as goal

-- so much of what the octets complete was answered and asked, whichever stream they go on; the book is of its users, the desk is as broken as it was, and no count fell
abbrev pub invariant-due : goal.invariant-due
invariant-due g l = record {
  far : (stream : List ℕ) → Rests stream l.fn.connection
      → HasAnsweredSoFar l.users l.fn.arrival.connection l.fn.arrival.moment stream l.fn.arrival.payload.now l.connection (state_in (g.B.Desk.book l.fn.desk)) (state_in (g.B.Desk.book l.desk)) (g.O.Sink.written l.fn.output) (g.O.Sink.written l.output);
  on : (stream : List ℕ) → Rests stream l.fn.connection
      → HasGoneOn l.users l.fn.arrival.connection l.fn.arrival.moment stream l.fn.arrival.payload.now l.connection (g.B.Desk.book l.fn.desk) (g.B.Desk.book l.desk);
  book : IsBookOf l.users (g.B.Desk.book l.desk);
  broken : g.B.Desk.broken l.desk ≡ g.B.Desk.broken l.fn.desk;
  desk_count : g.B.Desk.faults l.fn.desk ≤ g.B.Desk.faults l.desk;
  count : g.O.Sink.faults l.fn.output ≤ g.O.Sink.faults l.output;
}

-- a connection completes so many requests at most, and one fault
abbrev pub decreases-due : goal.decreases-due
decreases-due g l = may_come l.connection
