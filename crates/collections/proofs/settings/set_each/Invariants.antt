use Rattle.std.proofs.Common.{◌≡◌, ◌+◌, ◌≤◌, length}
use Rattle.std.specs.Prelude.{vec_len, vec_capacity}
use Rattle.std.specs.List.Sorted.{IsStrictlySortedBy}
use Rattle.std.specs.Map.{keys_of}
use Rattle.cal_model.specs.State.PropertyTexts.{Texts, prop_order, as_settings}
use Rattle.cal_model.specs.Properties.Settings.{texts_after_all}
use Rattle.collections.proofs.settings.set_each.Given as goal

-- what is left to set makes of the texts so far what all make of those at the start
abbrev pub invariant-loop-set : goal.invariant-loop-set
invariant-loop-set l = record {
  room : vec_len l.items + length l.left ≤ vec_capacity l.items;
  texts : (texts : Texts) → IsStrictlySortedBy prop_order (keys_of texts) → l.fn.items.items ≡ as_settings texts
      → (now : Texts) × IsStrictlySortedBy prop_order (keys_of now) × (l.items.items ≡ as_settings now) × (texts_after_all now l.left ≡ texts_after_all texts l.fn.sets);
}

abbrev pub decreases-loop-set : goal.decreases-loop-set
decreases-loop-set l = length l.left
