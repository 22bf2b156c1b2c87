-- The properties that were set on a calendar, each with its value (RFC 4918, 4.3; RFC 4791, 5.2): a map from names to texts.
-- Given: names and values. Gives: the map with a value or without one, always in the order of the names: by namespace, then by local name, each by its octets.
use Rattle.std.specs.Prelude.{ℕ, ◌+◌, List, map, length, Option, Some}
use Rattle.std.specs.declared.cmp.Ordering.{Ordering}
use Rattle.std.specs.Ordering.{ordering_then}
use Rattle.std.specs.Map.{lookup, remove_entry}
use Rattle.std.specs.BTreeMap.{insert_entry, is_at}
use Rattle.cal_base.specs.Lists.NameMap.{name_order}
use Rattle.cal_model.specs.declared.property.PropName.{PropName}
use Rattle.cal_model.specs.declared.property.PropSet.{PropSet}

abbrev pub Texts : Type 0
Texts = List (PropName × List ℕ)

abbrev pub prop_order : PropName → PropName → Ordering
prop_order a b = ordering_then (name_order a.space b.space) (name_order a.name b.name)

-- the value of a property, if it was set
abbrev pub text_at : Texts → PropName → Option (List ℕ)
text_at texts name = lookup (is_at (prop_order name)) texts

-- with a value, in the place of the old one or as a new one
abbrev pub with_text : Texts → PropName → List ℕ → Texts
with_text texts name value = insert_entry prop_order texts name value

-- without a property
abbrev pub without_text : Texts → PropName → Texts
without_text texts name = remove_entry (is_at (prop_order name)) texts

-- the same as settings, as a store keeps them
abbrev pub as_settings : Texts → List PropSet
as_settings texts = map (λ (text : PropName × List ℕ). record { name = text.0; value = Some text.1 }) texts

-- the octets of a name: of its namespace and its local name together
abbrev pub name_size : PropName → ℕ
name_size name = length name.space + length name.name
