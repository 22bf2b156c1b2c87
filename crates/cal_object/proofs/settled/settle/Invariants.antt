use Rattle.std.proofs.Common.{◌≡◌, ◌++◌, map, take, drop}
use Rattle.cal_model.specs.Objects.ObjectReading as spec
use Rattle.cal_object.proofs.settled.settle.Given as goal

abbrev pub invariant-loop-component : goal.invariant-loop-component
invariant-loop-component l =
    l.component-items ≡ map (spec.settled_component l.ids) (take l.component-index l.initial.component-items) ++ drop l.component-index l.initial.component-items
