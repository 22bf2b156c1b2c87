use Rattle.std.proofs.Common.{◌≡◌, take}
use Rattle.cal_model.specs.Properties.Settings.{kinds_after_all}
use Rattle.collections.proofs.kinds.kinds_behind.Given as goal

abbrev pub invariant-loop-set : goal.invariant-loop-set
invariant-loop-set l = l.kinds ≡ kinds_after_all l.before (take l.set-index l.sets)
