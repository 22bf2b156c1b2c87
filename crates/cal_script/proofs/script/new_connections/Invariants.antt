use Rattle.std.proofs.Common.{◌-◌, ◌≤◌, [], replicate, length}
use Rattle.std.specs.List.{AllZip}
use Rattle.cal_script.specs.Readings.{Rests}
use Rattle.cal_script.proofs.script.new_connections.Given as goal

abbrev pub invariant-opening : goal.invariant-opening
invariant-opening l = record { side : AllZip Rests (replicate (length l.connections) []) l.connections; within : length l.connections ≤ 16 }

abbrev pub decreases-opening : goal.decreases-opening
decreases-opening l = 16 - length l.connections
