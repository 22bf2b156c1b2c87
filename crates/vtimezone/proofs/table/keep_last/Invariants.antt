use Rattle.std.proofs.Common.{[], fold, length}
use Rattle.cal_model.specs.TimeZones.ZoneOnsets as zone
use Rattle.vtimezone.specs.Gathered as spec
use Rattle.vtimezone.proofs.TableLemmas.{IsKept}
use Rattle.vtimezone.proofs.table.keep_last.Given as goal

-- what is kept, and the last change behind it, are the changes so far in order, one at each moment
abbrev pub invariant-loop-next : goal.invariant-loop-next
invariant-loop-next l = IsKept (spec.changes_of l.kept) l.last l.rest (fold zone.put_change [] (spec.changes_of l.sorted))

abbrev pub decreases-loop-next : goal.decreases-loop-next
decreases-loop-next l = length l.rest
