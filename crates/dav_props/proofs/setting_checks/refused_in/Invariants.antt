use Rattle.std.proofs.Common.{◌≡◌, [], drop, false}
use Rattle.std.specs.List.Sorted.{IsStrictlySortedBy}
use Rattle.std.specs.Map.{keys_of}
use Rattle.cal_model.specs.State.PropertyTexts.{Texts, prop_order}
use Rattle.cal_model.specs.Properties.Settings.{faults_of_all}
use Rattle.dav_props.specs.KeptTexts.{kept_names, marks}
use Rattle.dav_props.proofs.setting_checks.refused_in.Given as goal

-- the names so far and those of the faults to come are those of all faults
abbrev pub invariant-loop-set : goal.invariant-loop-set
invariant-loop-set l = (texts : Texts) → IsStrictlySortedBy prop_order (keys_of texts) → l.fn.kept ≡ kept_names texts
    → (now : Texts) × IsStrictlySortedBy prop_order (keys_of now) × (l.kept ≡ kept_names now) × (marks l.refused (faults_of_all false now (drop l.set-index l.sets)) ≡ marks [] (faults_of_all false texts l.sets))
