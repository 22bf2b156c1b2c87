use Rattle.std.proofs.Common.{◌≡◌, ◌-◌, ◌≤◌, List, length, take}
use Rattle.cal_model.specs.History.Claims.{Pair}
use Rattle.cal_model.specs.Transcripts.Transcript.{Standing}
use Rattle.cal_script.specs.AnsweredFrames.{AnsweredTo, EnteredWhole}
use Rattle.cal_script.specs.Standings.{IsSound, StandsAt, running}
use Rattle.cal_script.proofs.frames.answer_frames.Given as goal

-- so many octets in front were answered and asked, wherever the script stood; the desk is as broken as it was, and no count fell
abbrev pub invariant-frames : goal.invariant-frames
invariant-frames g l = record {
  within : l.at ≤ length l.octets;
  answered : (standing : Standing) → StandsAt standing (running (g.B.Desk.book l.fn.desk) l.fn.script)
      → AnsweredTo l.users l.at l.octets standing (running (g.B.Desk.book l.desk) l.script) (g.O.Sink.written l.fn.output) (g.O.Sink.written l.output);
  entered : (standing : Standing) → StandsAt standing (running (g.B.Desk.book l.fn.desk) l.fn.script)
      → EnteredWhole l.users (take l.at l.octets) standing.streams (g.B.Desk.book l.fn.desk).work.journal (running (g.B.Desk.book l.desk) l.script);
  sound : (kept : List Pair) → IsSound l.users kept (running (g.B.Desk.book l.fn.desk) l.fn.script) → IsSound l.users kept (running (g.B.Desk.book l.desk) l.script);
  broken : g.B.Desk.broken l.desk ≡ g.B.Desk.broken l.fn.desk;
  desk_count : g.B.Desk.faults l.fn.desk ≤ g.B.Desk.faults l.desk;
  count : g.O.Sink.faults l.fn.output ≤ g.O.Sink.faults l.output;
}

-- each frame has an octet
abbrev pub decreases-frames : goal.decreases-frames
decreases-frames g l = length l.octets - l.at
