use Rattle.std.proofs.Common.{◌≡◌, ◌≤◌, List, length}
use Rattle.std.specs.Prelude.{All}
use Rattle.cal_model.specs.History.Claims.{Pair}
use Rattle.cal_script.specs.SlotTurns.{IsKeptOrHeld}
use Rattle.cal_script.proofs.slots.give_up_all.Given as goal

-- each pair that is out was out before, or a slot that is left holds it
abbrev pub invariant-giving : goal.invariant-giving
invariant-giving g l = record {
  out : (kept : List Pair) → All (IsKeptOrHeld kept l.fn.slots.items) (g.B.Desk.book l.fn.desk).work.out → All (IsKeptOrHeld kept l.slots.items) (g.B.Desk.book l.desk).work.out;
  journal : (g.B.Desk.book l.desk).work.journal ≡ (g.B.Desk.book l.fn.desk).work.journal;
  users : (g.B.Desk.book l.desk).users ≡ (g.B.Desk.book l.fn.desk).users;
  broken : g.B.Desk.broken l.desk ≡ g.B.Desk.broken l.fn.desk;
  count : g.B.Desk.faults l.fn.desk ≤ g.B.Desk.faults l.desk;
}

abbrev pub decreases-giving : goal.decreases-giving
decreases-giving g l = length l.slots.items
