use Rattle.std.proofs.Common.{◌≤◌, length}
use Rattle.cal_keeper.proofs.file_disk.read_ahead.read_from.Given as goal

abbrev pub invariant-reading : goal.invariant-reading
invariant-reading g l = l.done ≤ length l.into
