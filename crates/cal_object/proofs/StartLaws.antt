-- The start beside which the RECURRENCE-IDs of an object are aligned, component by component.
use Rattle.std.proofs.Common.{◌≡◌, ℕ, ◌+◌, List, [], ◌∷◌, ◌++◌, refl, sym, ap, ◌∙◌}
use Rattle.std.specs.Prelude.{filter, filter_map, not, Option, Some, None}
use Rattle.cal_moment.specs.declared.stamp.Stamp.{Stamp}
use Rattle.cal_model.specs.declared.object.Component.{Component}
use Rattle.cal_model.specs.declared.object.Object.{Object}
use Rattle.cal_model.specs.Instances.Rows.{Numbered, numbered_from, has_id, master_stamp, first_of, ids_start, start_or_due}
use Rattle.cal_object.specs.Identifiers.{master_stamps, id_stamps}

first_of-append : (xs ys : List Stamp) (one : Option Stamp) → one ≡ first_of xs → first_of (xs ++ ys) ≡ elim one as (λ _. Option Stamp) [ Some x ↦ Some x | None ↦ first_of ys ]
first_of-append [] ys one e = rw e refl
first_of-append (x ∷ xs) ys one e = rw e refl

masters_one : (n : ℕ) (c : Component) (cs : List Component) (id : Option Stamp) (due : Option Stamp) → c.recurrence_id ≡ id → start_or_due c.kind c.start c.extent ≡ due →
    filter_map master_stamp (filter (λ (m : Numbered). not (has_id m)) (numbered_from (n + 1) cs)) ≡ master_stamps cs →
    filter_map master_stamp (filter (λ (m : Numbered). not (has_id m)) (numbered_from n (c ∷ cs))) ≡ master_stamps (c ∷ cs)
masters_one n c cs (Some x) due e d rest = rw e rest
masters_one n c cs None None e d rest = rw (e, d) rest
masters_one n c cs None (Some s) e d rest = rw (e, d) (ap (λ ss. s ∷ ss) rest)

masters_from : (n : ℕ) (cs : List Component) → filter_map master_stamp (filter (λ (m : Numbered). not (has_id m)) (numbered_from n cs)) ≡ master_stamps cs
masters_from n [] = refl
masters_from n (c ∷ cs) = masters_one n c cs c.recurrence_id (start_or_due c.kind c.start c.extent) refl refl (masters_from (n + 1) cs)

overrides_one : (n : ℕ) (c : Component) (cs : List Component) (id : Option Stamp) → c.recurrence_id ≡ id →
    filter_map (λ (m : Numbered). m.component.recurrence_id) (filter has_id (numbered_from (n + 1) cs)) ≡ id_stamps cs →
    filter_map (λ (m : Numbered). m.component.recurrence_id) (filter has_id (numbered_from n (c ∷ cs))) ≡ id_stamps (c ∷ cs)
overrides_one n c cs (Some x) e rest = rw e (ap (λ ss. x ∷ ss) rest)
overrides_one n c cs None e rest = rw e rest

overrides_from : (n : ℕ) (cs : List Component) → filter_map (λ (m : Numbered). m.component.recurrence_id) (filter has_id (numbered_from n cs)) ≡ id_stamps cs
overrides_from n [] = refl
overrides_from n (c ∷ cs) = overrides_one n c cs c.recurrence_id refl (overrides_from (n + 1) cs)

ids_start-stamps : (object : Object) → ids_start object ≡ first_of (master_stamps object.components ++ id_stamps object.components)
ids_start-stamps object = rw (masters_from 0 object.components, overrides_from 0 object.components) refl

-- the start of the component that is no override, where it has one
pub ids_of_master : (object : Object) (s : Stamp) → Some s ≡ first_of (master_stamps object.components) → Some s ≡ ids_start object
ids_of_master object s e = sym (ids_start-stamps object ∙ first_of-append (master_stamps object.components) (id_stamps object.components) (Some s) e)

-- else the first RECURRENCE-ID
pub ids_of_override : (object : Object) → None ≡ first_of (master_stamps object.components) → first_of (id_stamps object.components) ≡ ids_start object
ids_of_override object e = sym (ids_start-stamps object ∙ first_of-append (master_stamps object.components) (id_stamps object.components) None e)
