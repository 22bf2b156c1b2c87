use Rattle.std.proofs.Common.{◌≡◌, map, take}
use Rattle.cal_model.specs.declared.property.PropSet.{PropSet}
use Rattle.dav_props.proofs.setting_replies.names_of.Given as goal

abbrev pub invariant-loop-set : goal.invariant-loop-set
invariant-loop-set l = l.names ≡ map (λ (set : PropSet). set.name) (take l.set-index l.sets)
