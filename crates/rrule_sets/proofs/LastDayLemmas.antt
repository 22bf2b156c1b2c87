-- The last day that a window may cost is not before its last day, and not before the starts end that overrides may move into it.
use Rattle.std.proofs.Common.{◌≡◌, ◌+◌, ◌≤◌, Bool, true, false, map, sym, ap, subst, ◌∙◌, arith, ℤ, inl, inr}
use Rattle.std.specs.Prelude.{All, flat_map, max, option_to_list, if◌then◌else◌, Option, Some}
use Rattle.std.specs.List.{list_any}
use Rattle.std.proofs.lemmas.Bool.{cases_Bool}
use Rattle.std.proofs.lemmas.List.{append-nil}
use Rattle.std.proofs.lemmas.List.Elements.{All-nil, All-weaker}
use Rattle.cal_moment.specs.declared.stamp.Stamp.{Stamp}
use Rattle.cal_model.specs.declared.object.Object.{Object}
use Rattle.cal_model.specs.Instances.Rows.{Governor, governors, ids_start, move_of, moves_later, overrides, starts}
use Rattle.cal_model.specs.Ranges.Cost.{all_governors, days_apart, days_earlier, days_named_from, greatest, greatest_move, last_day, last_of_window}
use Rattle.cal_model.specs.Recurrence.RecurrenceSet.{every_moment}
use Rattle.cal_model.proofs.Instances.EachRowLemmas.{All-greatest}
use Rattle.cal_model.proofs.Instances.KeptStarts.{governors-none}
use Rattle.cal_model.proofs.Words.AllLemmas.{All-unmap}

pub window_within : (object : Object) (window : ℤ) → last_of_window window ≤ last_day every_moment object window
window_within object window = by (list_any moves_later (overrides object))
  where
    by : (b : Bool) → last_of_window window ≤ max (if b then last_of_window window + (days_apart object + greatest_move every_moment object) else last_of_window window) (greatest (days_named_from object (ids_start object)))
    by true = omega arith
    by false = omega arith

pub named_within : (object : Object) (window : ℤ) → greatest (days_named_from object (ids_start object)) ≤ last_day every_moment object window
named_within object window = omega arith

abbrev IsWithin : Object → ℤ → Governor → Type 0
IsWithin object window g = last_of_window window + (days_apart object + days_earlier (move_of object.zones g)) ≤ last_day every_moment object window

pub moved_within : (object : Object) (ids : Stamp) (window : ℤ) → Some ids ≡ ids_start object → All (IsWithin object window) (governors object ids (starts every_moment object))
moved_within object ids window aligned = elim (cases_Bool (list_any moves_later (overrides object))) [
  | inl w ↦ All-weaker (λ g. days_earlier (move_of object.zones g) ≤ greatest_move every_moment object) (IsWithin object window) (λ g le. rw w (omega (arith, le))) (governors object ids (starts every_moment object)) most
  | inr w ↦ subst (All (IsWithin object window)) (sym (governors-none object ids (starts every_moment object) w)) (All-nil (IsWithin object window))
]
  where
    same : all_governors every_moment object ≡ governors object ids (starts every_moment object)
    same = ap (λ (start : Option Stamp). flat_map (λ s. governors object s (starts every_moment object)) (option_to_list start)) (sym aligned) ∙ append-nil (governors object ids (starts every_moment object))

    most : All (λ g. days_earlier (move_of object.zones g) ≤ greatest_move every_moment object) (governors object ids (starts every_moment object))
    most = subst (All (λ g. days_earlier (move_of object.zones g) ≤ greatest_move every_moment object)) same
        (All-unmap (λ k. k ≤ greatest_move every_moment object) (λ g. days_earlier (move_of object.zones g)) (all_governors every_moment object) (All-greatest (map (λ g. days_earlier (move_of object.zones g)) (all_governors every_moment object))))
