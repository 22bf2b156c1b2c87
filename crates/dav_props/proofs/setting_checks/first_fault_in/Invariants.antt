use Rattle.std.proofs.Common.{◌≡◌, [], drop, true}
use Rattle.std.specs.List.Sorted.{IsStrictlySortedBy}
use Rattle.std.specs.Map.{keys_of}
use Rattle.cal_model.specs.State.PropertyTexts.{Texts, prop_order}
use Rattle.cal_model.specs.Properties.Settings.{faults_of_all, first_fault}
use Rattle.dav_props.specs.KeptTexts.{kept_names}
use Rattle.dav_props.specs.SettingChecks.{fault_in}
use Rattle.dav_props.proofs.setting_checks.first_fault_in.Given as goal

-- no setting so far has a fault
abbrev pub invariant-loop-set : goal.invariant-loop-set
invariant-loop-set l = l.fn.kept ≡ [] → (now : Texts) × IsStrictlySortedBy prop_order (keys_of now) × (l.kept ≡ kept_names now) × (fault_in (faults_of_all true now (drop l.set-index l.sets)) ≡ first_fault l.sets)
