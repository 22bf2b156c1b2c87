use Rattle.std.proofs.Common.{◌≡◌, ◌-◌, length, drop}
use Rattle.std.specs.List.Sorted.{IsStrictlySortedBy}
use Rattle.std.specs.Map.{keys_of}
use Rattle.cal_model.specs.State.PropertyTexts.{Texts, prop_order, as_settings}
use Rattle.dav_props.specs.KeptTexts.{kept_names}
use Rattle.dav_props.proofs.kept_texts.kept_of.Given as goal

-- the names of the last texts are kept
abbrev pub invariant-loop-behind : goal.invariant-loop-behind
invariant-loop-behind l = (them : Texts) → IsStrictlySortedBy prop_order (keys_of them) → l.texts ≡ as_settings them → l.kept ≡ kept_names (drop (length l.texts - l.behind) them)
