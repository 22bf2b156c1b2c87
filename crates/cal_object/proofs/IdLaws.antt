-- The RECURRENCE-IDs of an object beside its start, component by component, and as numbers.
use Rattle.std.proofs.Common.{◌≡◌, List, [], ◌∷◌, ◌++◌, refl, sym, ap, ◌∙◌, map, append_assoc, Bool, true, false, inl, inr, ℤ}
use Rattle.std.specs.Prelude.{◌||◌, filter, filter_map, Option, Some, None}
use Rattle.std.specs.List.{list_any}
use Rattle.std.proofs.lemmas.Bool.{cases_Bool}
use Rattle.cal_moment.specs.declared.stamp.Stamp.{Stamp}
use Rattle.cal_model.specs.declared.object.Component.{Component}
use Rattle.cal_model.specs.declared.object.Object.{Object}
use Rattle.cal_model.specs.declared.zone.ZoneTable.{ZoneTable}
use Rattle.cal_model.specs.Words.Integers.{same_int}
use Rattle.cal_model.specs.Instances.Alignment.{Aligned, at, on_day, align}
use Rattle.cal_model.specs.Instances.Rows.{ids_start}
use Rattle.cal_model.specs.Objects.ResourceFaults.{can_align, same_aligned, has_repeat, aligned_ids}
use Rattle.cal_object.specs.Identifiers.{ids_beside, values_in, days_in, has_double}

-- Numbers

values_in-append : (xs ys : List Aligned) → values_in (xs ++ ys) ≡ values_in xs ++ values_in ys
values_in-append [] ys = refl
values_in-append (at v ∷ xs) ys = ap (λ rest. v ∷ rest) (values_in-append xs ys)
values_in-append (on_day m ∷ xs) ys = values_in-append xs ys

days_in-append : (xs ys : List Aligned) → days_in (xs ++ ys) ≡ days_in xs ++ days_in ys
days_in-append [] ys = refl
days_in-append (at v ∷ xs) ys = days_in-append xs ys
days_in-append (on_day m ∷ xs) ys = ap (λ rest. m ∷ rest) (days_in-append xs ys)

-- more ids behind those that are done
pub values_more : (done : List ℤ) (xs ys : List Aligned) → (done ++ values_in xs) ++ values_in ys ≡ done ++ values_in (xs ++ ys)
values_more done xs ys = append_assoc done (values_in xs) (values_in ys) ∙ ap (λ more. done ++ more) (sym (values_in-append xs ys))

pub days_more : (done : List ℤ) (xs ys : List Aligned) → (done ++ days_in xs) ++ days_in ys ≡ done ++ days_in (xs ++ ys)
days_more done xs ys = append_assoc done (days_in xs) (days_in ys) ∙ ap (λ more. done ++ more) (sym (days_in-append xs ys))

same_value : (v : ℤ) (ids : List Aligned) → list_any (same_aligned (at v)) ids ≡ list_any (same_int v) (values_in ids)
same_value v [] = refl
same_value v (at value ∷ ids) = ap (λ rest. same_int v value || rest) (same_value v ids)
same_value v (on_day midnight ∷ ids) = same_value v ids

same_day : (m : ℤ) (ids : List Aligned) → list_any (same_aligned (on_day m)) ids ≡ list_any (same_int m) (days_in ids)
same_day m [] = refl
same_day m (at value ∷ ids) = same_day m ids
same_day m (on_day midnight ∷ ids) = ap (λ rest. same_int m midnight || rest) (same_day m ids)

or_assoc : (a b c : Bool) → (a || (b || c)) ≡ ((a || b) || c)
or_assoc true b c = refl
or_assoc false b c = refl

or_between : (a b c : Bool) → (b || (a || c)) ≡ (a || (b || c))
or_between true true c = refl
or_between true false c = refl
or_between false b c = refl

-- two ids say the same where a value or a day stands twice
pub has_repeat-numbers : (ids : List Aligned) → has_repeat ids ≡ (has_double (values_in ids) || has_double (days_in ids))
has_repeat-numbers [] = refl
has_repeat-numbers (at v ∷ ids) =
    ap (λ first. first || has_repeat ids) (same_value v ids) ∙ ap (λ rest. list_any (same_int v) (values_in ids) || rest) (has_repeat-numbers ids)
    ∙ or_assoc (list_any (same_int v) (values_in ids)) (has_double (values_in ids)) (has_double (days_in ids))
has_repeat-numbers (on_day m ∷ ids) =
    ap (λ first. first || has_repeat ids) (same_day m ids) ∙ ap (λ rest. list_any (same_int m) (days_in ids) || rest) (has_repeat-numbers ids)
    ∙ or_between (has_double (values_in ids)) (list_any (same_int m) (days_in ids)) (has_double (days_in ids))

pub repeat_of_values : (ids : List Aligned) (values : List ℤ) (double : Bool) → values ≡ values_in ids → double ≡ has_double values → double ≡ true → double ≡ has_repeat ids
repeat_of_values ids values double same is there =
    there ∙ sym (has_repeat-numbers ids ∙ ap (λ first. first || has_double (days_in ids)) (sym (ap has_double same) ∙ sym is ∙ there))

pub repeat_of_days : (ids : List Aligned) (values days : List ℤ) (first double : Bool) → values ≡ values_in ids → days ≡ days_in ids → first ≡ has_double values → first ≡ false →
    double ≡ has_double days → double ≡ has_repeat ids
repeat_of_days ids values days first double same those is none then =
    then ∙ ap has_double those ∙ sym (has_repeat-numbers ids ∙ ap (λ one. one || has_double (days_in ids)) (sym (ap has_double same) ∙ sym is ∙ none))

-- Components

module _ (zones : List ZoneTable) (start : Stamp) where
  ids_step : (c : Component) (cs : List Component) (id : Option Stamp) → c.recurrence_id ≡ id →
      map (λ x. align zones x start) (filter (λ x. can_align zones x start) (filter_map (λ (component : Component). component.recurrence_id) cs)) ≡ ids_beside zones start cs →
      map (λ x. align zones x start) (filter (λ x. can_align zones x start) (filter_map (λ (component : Component). component.recurrence_id) (c ∷ cs))) ≡ ids_beside zones start (c ∷ cs)
  ids_step c cs None e rest = rw e rest
  ids_step c cs (Some id) e rest = rw e (elim (cases_Bool (can_align zones id start)) [
    | inl w ↦ rw w (ap (λ ids. align zones id start ∷ ids) rest)
    | inr w ↦ rw w rest
  ])

  ids_are : (cs : List Component) → map (λ x. align zones x start) (filter (λ x. can_align zones x start) (filter_map (λ (component : Component). component.recurrence_id) cs)) ≡ ids_beside zones start cs
  ids_are [] = refl
  ids_are (c ∷ cs) = ids_step c cs c.recurrence_id refl (ids_are cs)

pub aligned_ids-beside : (object : Object) (start : Stamp) → ids_start object ≡ Some start → aligned_ids object ≡ ids_beside object.zones start object.components
aligned_ids-beside object start is = rw is (ids_are object.zones start object.components)

pub aligned_ids-none : (object : Object) → ids_start object ≡ None → aligned_ids object ≡ []
aligned_ids-none object is = rw is refl
