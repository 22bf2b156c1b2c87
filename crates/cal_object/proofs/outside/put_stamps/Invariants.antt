use Rattle.std.proofs.Common.{◌≡◌, ◌++◌, length, flat_map}
use Rattle.cal_model.specs.Objects.DatedLines as dated
use Rattle.cal_object.proofs.outside.put_stamps.Given as goal

-- what was put there, and the stamps of the periods to come, are all
abbrev pub invariant-periods : goal.invariant-periods
invariant-periods l = l.stamps ++ flat_map dated.stamps_of_period l.rest ≡ l.fn.stamps ++ flat_map dated.stamps_of_period l.periods

abbrev pub decreases-periods : goal.decreases-periods
decreases-periods l = length l.rest
