use Rattle.std.proofs.Common.{◌≡◌, take}
use Rattle.std.specs.Option.{option_copied}
use Rattle.collections.specs.Settings.{last_zone}
use Rattle.collections.proofs.zone.last_setting.Given as goal

abbrev pub invariant-loop-set : goal.invariant-loop-set
invariant-loop-set l = option_copied l.last ≡ last_zone (take l.set-index l.sets)
