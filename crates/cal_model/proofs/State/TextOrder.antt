-- The texts of a calendar stand in the order of their names, and stay so where settings are carried out.
use Rattle.std.proofs.Common.{◌≡◌, ℕ, Bool, true, false, List, [], ◌∷◌, Option, Some, None, refl, ap, ◌∙◌}
use Rattle.std.specs.Prelude.{bytes_eq, ◌&&◌, if◌then◌else◌}
use Rattle.std.specs.declared.cmp.Ordering.{Ordering}
use Rattle.std.specs.declared.cmp.Ordering.TheVariants.{Less, Equal, Greater}
use Rattle.std.specs.Ordering.{is_eq, ordering_then}
use Rattle.std.specs.BTreeMap.{is_at}
use Rattle.std.specs.Cmp.{IsTotalOrder}
use Rattle.std.specs.List.Sorted.{IsStrictlySortedBy}
use Rattle.std.specs.Map.{keys_of}
use Rattle.std.proofs.lemmas.Cmp.{nat_list_cmp_total, then_total, on_total}
use Rattle.std.proofs.lemmas.Map.Text.{is_eq-slice_cmp}
use Rattle.cal_base.specs.Lists.NameMap.{name_order}
use Rattle.cal_model.specs.declared.property.PropName.{PropName}
use Rattle.cal_model.specs.declared.property.PropSet.{PropSet}
use Rattle.cal_model.specs.Access.Privileges.{same_name}
use Rattle.cal_model.specs.State.PropertyTexts.{Texts, prop_order}
use Rattle.cal_model.specs.Properties.PropertyTable.{row_of}
use Rattle.cal_model.specs.Properties.Settings.{is_kinds, texts_after, texts_after_all, texts_with_value}
use Rattle.cal_model.proofs.State.OrderLaws.{sorted-insert, sorted-remove}

-- The order of names

pub props_total : IsTotalOrder prop_order
props_total = then_total (on_total (λ (name : PropName). name.space) nat_list_cmp_total) (on_total (λ (name : PropName). name.name) nat_list_cmp_total)

pub at_same : (a b : PropName) → is_at (prop_order a) b ≡ same_name a b
at_same a b = both (name_order a.space b.space) (name_order a.name b.name) ∙ (ap (λ x. x && is_eq (name_order a.name b.name)) (is_eq-slice_cmp a.space b.space) ∙ ap (λ y. bytes_eq a.space b.space && y) (is_eq-slice_cmp a.name b.name)) where
  both : (x y : Ordering) → is_eq (ordering_then x y) ≡ (is_eq x && is_eq y)
  both Less y = refl
  both Equal y = refl
  both Greater y = refl

-- Settings keep it

pub in_order-after : (texts : Texts) (set : PropSet) → IsStrictlySortedBy prop_order (keys_of texts) → IsStrictlySortedBy prop_order (keys_of (texts_after texts set))
in_order-after texts set in_order = either (is_kinds (row_of set.name).setting) set.value where
  by_value : (value : Option (List ℕ)) → IsStrictlySortedBy prop_order (keys_of (texts_with_value texts set.name value))
  by_value None = sorted-remove props_total _ texts in_order
  by_value (Some value) = sorted-insert props_total texts set.name value in_order

  either : (test : Bool) (value : Option (List ℕ)) → IsStrictlySortedBy prop_order (keys_of (if test then texts else texts_with_value texts set.name value))
  either true value = in_order
  either false value = by_value value

pub in_order-after_all : (sets : List PropSet) (texts : Texts) → IsStrictlySortedBy prop_order (keys_of texts) → IsStrictlySortedBy prop_order (keys_of (texts_after_all texts sets))
in_order-after_all [] texts in_order = in_order
in_order-after_all (set ∷ sets) texts in_order = in_order-after_all sets (texts_after texts set) (in_order-after texts set in_order)
