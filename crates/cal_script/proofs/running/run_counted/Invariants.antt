use Rattle.std.proofs.Common.{◌≡◌, ◌+◌, ◌<◌, ◌≤◌, ◌^◌, List, length}
use Rattle.cal_book.specs.Cores.{state_in}
use Rattle.cal_model.specs.History.Claims.{Pair}
use Rattle.cal_script.specs.FrameHeads.{IsFrameStart}
use Rattle.cal_script.specs.ScriptEnds.{run_told}
use Rattle.cal_script.specs.Standings.{IsSound, running, standing_in}
use Rattle.cal_script.proofs.EnteredLemmas.{HasEnteredSoFar}
use Rattle.cal_script.proofs.RunLemmas.{HasCome}
use Rattle.cal_script.proofs.running.run_counted.Given as goal

-- how far the run has come, and what it has entered; what is kept is the start of a frame; the octets are at most all that a source may give; the desk is as broken as it was, and no count fell
abbrev pub invariant-reading : goal.invariant-reading
invariant-reading g l = record {
  come : HasCome l.users (standing_in (state_in (g.B.Desk.book l.fn.desk))) (run_told g.I.Source g.O.Sink l.fn.input l.input l.fn.output l.output) l.place l.kept (running (g.B.Desk.book l.desk) l.script);
  entered : HasEnteredSoFar l.users (g.I.Source.left l.fn.input) (g.B.Desk.book l.fn.desk).work.journal l.kept (running (g.B.Desk.book l.desk) l.script) (g.I.Source.left l.input);
  sound : (kept : List Pair) → IsSound l.users kept (running (g.B.Desk.book l.fn.desk) l.fn.script) → IsSound l.users kept (running (g.B.Desk.book l.desk) l.script);
  start : IsFrameStart l.kept;
  bounded : 0 < l.place + length l.kept → l.place + length l.kept + g.I.Source.allowance l.input ≤ 2 ^ 62;
  room : 0 < length l.piece.items;
  broken : g.B.Desk.broken l.desk ≡ g.B.Desk.broken l.fn.desk;
  desk_count : g.B.Desk.faults l.fn.desk ≤ g.B.Desk.faults l.desk;
  input_count : g.I.Source.faults l.fn.input ≤ g.I.Source.faults l.input;
  output_count : g.O.Sink.faults l.fn.output ≤ g.O.Sink.faults l.output;
}

-- each read takes an octet of what may come, or ends the loop
abbrev pub decreases-reading : goal.decreases-reading
decreases-reading g l = g.I.Source.allowance l.input
