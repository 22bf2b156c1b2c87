use Rattle.std.proofs.Common.{◌≡◌, ◌++◌, map, take}
use Rattle.cal_object.specs.Classes.{with_class}
use Rattle.cal_object.proofs.busy.add_with_class.Given as goal

-- the periods so far stand behind the others
abbrev pub invariant-periods : goal.invariant-periods
invariant-periods l = l.busy ≡ l.initial.busy ++ map (with_class l.class) (take l.period-index l.periods)
