-- The stamps of an object that was read can be converted: those from which its components start, and that beside which its ids are aligned.
use Rattle.std.proofs.Common.{◌≡◌, ℕ, ◌+◌, List, [], ◌∷◌, ◌++◌, refl, sym, ap, ◌∙◌, Bool, true, false}
use Rattle.std.specs.Prelude.{All, filter, filter_map, not, option_to_list, is_some, if◌then◌else◌, Option, Some, None}
use Rattle.std.proofs.lemmas.List.Elements.{All-head, All-tail, All-nil, All-cons, All-append}
use Rattle.cal_moment.specs.declared.stamp.Stamp.{Stamp}
use Rattle.cal_model.specs.declared.object.Component.{Component}
use Rattle.cal_model.specs.declared.object.Extent.{Extent}
use Rattle.cal_model.specs.declared.object.Extent.TheVariants as extent
use Rattle.cal_model.specs.declared.object.Kind.{Kind}
use Rattle.cal_model.specs.declared.object.Kind.TheVariants.{Todo, FreeBusy}
use Rattle.cal_model.specs.declared.object.Object.{Object}
use Rattle.cal_model.specs.Instances.Starts.{own_start_of}
use Rattle.cal_model.specs.Instances.Rows.{Numbered, numbered_from, has_id, master_stamp, first_of, ids_start, own_start, start_or_due}
use Rattle.override_merge.specs.Conversions.{IsConvertible, IsConvertibleExtent, HasConvertibleRow}
use Rattle.override_merge.specs.IdStarts.{master_stamps_of, master_stamps, id_stamps}

due_convertible : (zones : ℕ) (kind : Kind) (start : Option Stamp) (said : Extent) → All (IsConvertible zones) (option_to_list start) → IsConvertibleExtent zones said → All (IsConvertible zones) (option_to_list (start_or_due kind start said))
due_convertible zones Todo None (extent.Due e) a x = All-cons (IsConvertible zones) e [] x (All-nil (IsConvertible zones))
due_convertible zones kind start said a x = a

start_convertible : (zones : ℕ) (kind : Kind) (start : Option Stamp) (said : Extent) → All (IsConvertible zones) (option_to_list start) → IsConvertibleExtent zones said → All (IsConvertible zones) (option_to_list (own_start_of kind start said))
start_convertible zones FreeBusy start (extent.End e) a x = a
start_convertible zones FreeBusy start said a x = All-nil (IsConvertible zones)
start_convertible zones kind start said a x = due_convertible zones kind start said a x

-- the stamp from which a component starts
pub own_start_convertible : (zones : ℕ) (c : Component) → HasConvertibleRow zones c → All (IsConvertible zones) (option_to_list (own_start c))
own_start_convertible zones c is = start_convertible zones c.kind c.start c.extent is.start is.extent

pub convertible_some : (zones : ℕ) (own : Option Stamp) (s : Stamp) → own ≡ Some s → All (IsConvertible zones) (option_to_list own) → IsConvertible zones s
convertible_some zones own s e all = All-head (IsConvertible zones) s [] (rw e at all)

-- The stamp of the ids.

first_of-append : (xs ys : List Stamp) (one : Option Stamp) → one ≡ first_of xs → first_of (xs ++ ys) ≡ elim one as (λ _. Option Stamp) [ Some x ↦ Some x | None ↦ first_of ys ]
first_of-append [] ys one e = rw e refl
first_of-append (x ∷ xs) ys one e = rw e refl

masters_one : (n : ℕ) (c : Component) (cs : List Component) (id : Option Stamp) (due : Option Stamp) → c.recurrence_id ≡ id → start_or_due c.kind c.start c.extent ≡ due →
    filter_map master_stamp (filter (λ (m : Numbered). not (has_id m)) (numbered_from (n + 1) cs)) ≡ master_stamps cs →
    filter_map master_stamp (filter (λ (m : Numbered). not (has_id m)) (numbered_from n (c ∷ cs))) ≡ master_stamps (c ∷ cs)
masters_one n c cs (Some x) due e d rest = rw e rest
masters_one n c cs None None e d rest = rw (e, d) rest
masters_one n c cs None (Some s) e d rest = rw (e, d) (ap (λ ss. s ∷ ss) rest)

masters_from : (n : ℕ) (cs : List Component) → filter_map master_stamp (filter (λ (m : Numbered). not (has_id m)) (numbered_from n cs)) ≡ master_stamps cs
masters_from n [] = refl
masters_from n (c ∷ cs) = masters_one n c cs c.recurrence_id (start_or_due c.kind c.start c.extent) refl refl (masters_from (n + 1) cs)

overrides_one : (n : ℕ) (c : Component) (cs : List Component) (id : Option Stamp) → c.recurrence_id ≡ id →
    filter_map (λ (m : Numbered). m.component.recurrence_id) (filter has_id (numbered_from (n + 1) cs)) ≡ id_stamps cs →
    filter_map (λ (m : Numbered). m.component.recurrence_id) (filter has_id (numbered_from n (c ∷ cs))) ≡ id_stamps (c ∷ cs)
overrides_one n c cs (Some x) e rest = rw e (ap (λ ss. x ∷ ss) rest)
overrides_one n c cs None e rest = rw e rest

overrides_from : (n : ℕ) (cs : List Component) → filter_map (λ (m : Numbered). m.component.recurrence_id) (filter has_id (numbered_from n cs)) ≡ id_stamps cs
overrides_from n [] = refl
overrides_from n (c ∷ cs) = overrides_one n c cs c.recurrence_id refl (overrides_from (n + 1) cs)

ids_start-stamps : (object : Object) → ids_start object ≡ first_of (master_stamps object.components ++ id_stamps object.components)
ids_start-stamps object = rw (masters_from 0 object.components, overrides_from 0 object.components) refl

-- the master's stamp, where it has one
pub ids_of_master : (object : Object) (s : Stamp) → Some s ≡ first_of (master_stamps object.components) → Some s ≡ ids_start object
ids_of_master object s e = sym (ids_start-stamps object ∙ first_of-append (master_stamps object.components) (id_stamps object.components) (Some s) e)

-- else the first RECURRENCE-ID
pub ids_of_override : (object : Object) → None ≡ first_of (master_stamps object.components) → first_of (id_stamps object.components) ≡ ids_start object
ids_of_override object e = sym (ids_start-stamps object ∙ first_of-append (master_stamps object.components) (id_stamps object.components) None e)

first_convertible : (zones : ℕ) (ss : List Stamp) → All (IsConvertible zones) ss → All (IsConvertible zones) (option_to_list (first_of ss))
first_convertible zones [] all = All-nil (IsConvertible zones)
first_convertible zones (s ∷ ss) all = All-cons (IsConvertible zones) s [] (All-head (IsConvertible zones) s ss all) (All-nil (IsConvertible zones))

master_convertible : (zones : ℕ) (c : Component) (b : Bool) → HasConvertibleRow zones c → All (IsConvertible zones) (if b then [] else option_to_list (start_or_due c.kind c.start c.extent))
master_convertible zones c true is = All-nil (IsConvertible zones)
master_convertible zones c false is = due_convertible zones c.kind c.start c.extent is.start is.extent

masters_convertible : (zones : ℕ) (cs : List Component) → All (HasConvertibleRow zones) cs → All (IsConvertible zones) (master_stamps cs)
masters_convertible zones [] all = All-nil (IsConvertible zones)
masters_convertible zones (c ∷ cs) all =
    All-append (IsConvertible zones) (master_stamps_of c) (master_stamps cs) (master_convertible zones c (is_some c.recurrence_id) (All-head (HasConvertibleRow zones) c cs all))
    (masters_convertible zones cs (All-tail (HasConvertibleRow zones) c cs all))

overrides_convertible : (zones : ℕ) (cs : List Component) → All (HasConvertibleRow zones) cs → All (IsConvertible zones) (id_stamps cs)
overrides_convertible zones [] all = All-nil (IsConvertible zones)
overrides_convertible zones (c ∷ cs) all =
    All-append (IsConvertible zones) (option_to_list c.recurrence_id) (id_stamps cs) (All-head (HasConvertibleRow zones) c cs all).id
    (overrides_convertible zones cs (All-tail (HasConvertibleRow zones) c cs all))

pub ids_convertible : (zones : ℕ) (object : Object) (s : Stamp) → All (HasConvertibleRow zones) object.components → Some s ≡ ids_start object → IsConvertible zones s
ids_convertible zones object s all e =
    convertible_some zones (ids_start object) s (sym e)
    (rw (ids_start-stamps object) (first_convertible zones (master_stamps object.components ++ id_stamps object.components)
    (All-append (IsConvertible zones) (master_stamps object.components) (id_stamps object.components) (masters_convertible zones object.components all) (overrides_convertible zones object.components all))))
