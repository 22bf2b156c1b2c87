-- What an element holds is what the elements in it hold, its own text, the values of its attributes, and four.
use Rattle.std.specs.Prelude.{◌≡◌, ℕ, ◌+◌, ◌*◌, ◌≤◌, Bool, true, false, if◌then◌else◌, List, [], ◌∷◌, length, take, map, sum_by, filter, flat_map, find, codes, Option, Some, None, option_map, unwrap_or}
use Rattle.std.specs.List.{join_with_byte}
use Rattle.std.proofs.Common.{arith, refl, ap, ◌∙◌}
use Rattle.std.proofs.lemmas.List.{length-append, length-map}
use Rattle.std.proofs.lemmas.List.Sums.{sum-map, sum_by-cons, sum_by-append, sum_by-take-le}
use denote.Hole.Carrier as H
use Rattle.cal_base.specs.declared.element.Attr.{Attr}
use Rattle.cal_base.specs.declared.element.Element.{Element}
use Rattle.cal_base.specs.declared.element.Item.{Item, Item-F}
use Rattle.cal_base.specs.declared.element.Item.TheViews.{out-Item}
use Rattle.cal_base.specs.declared.element.Item.TheFolds.{fold-Item, fold_out-Element, fold_out-Item}
use Rattle.cal_base.specs.declared.element.Item.TheVariants.{Text}
use Rattle.cal_base.specs.Texts.Text.{raised}
use Rattle.cal_base.specs.Xml.XmlSizes.{value_size, item_size_step, element_size_step, element_size}
use Rattle.cal_model.specs.Bodies.ElementParts.{elements_of, item_elements, children, named, first_named, has_name, text_of, item_text, own_text, attribute_of, is_attribute}
use Rattle.cal_model.specs.Bodies.ElementParts.{name_of}

abbrev item_size : Item → ℕ
item_size = fold-Item ℕ ℕ item_size_step element_size_step

abbrev pub attrs_size : Element → ℕ
attrs_size element = sum_by value_size element.attrs

-- the sizes of some elements
abbrev pub sizes : List Element → ℕ
sizes elements = sum_by element_size elements

-- One level

element_size-out : (element : Element) → element_size element ≡ 4 + sum_by value_size element.attrs + sum_by item_size element.items
unfolding H.out
element_size-out element = fold_out-Element ℕ ℕ item_size_step element_size_step element ∙ ap (λ items. 4 + sum_by value_size element.attrs + items) (sum-map item_size element.items)

item_size-out : (item : Item) → item_size item ≡ sizes (item_elements item) + length (item_text item)
item_size-out item = fold_out-Item ℕ ℕ item_size_step element_size_step item ∙ by (out-Item item)
  where
    by : (view : Item-F Item Element) → item_size_step (elim view [ Item-F.Element element ↦ Item-F.Element (element_size element) | Item-F.Text text ↦ Item-F.Text text ]) ≡ sizes (elements_of view) + length (text_of view)
    by (Item-F.Element element) = omega (arith, sum_by-cons element_size element [])
    by (Item-F.Text text) = omega arith

items_size : (items : List Item) → sum_by item_size items ≡ sizes (flat_map item_elements items) + length (flat_map item_text items)
items_size [] = omega arith
items_size (item ∷ items) =
    omega (
      arith,
      sum_by-cons item_size item items,
      item_size-out item,
      items_size items,
      sum_by-append element_size (item_elements item) (flat_map item_elements items),
      length-append (item_text item) (flat_map item_text items),
    )

pub children_size : (element : Element) → element_size element ≡ 4 + attrs_size element + sizes (children element) + length (own_text element)
children_size element = omega (arith, element_size-out element, items_size element.items)

-- Some of the elements

pub filter_sizes : (test : Element → Bool) (elements : List Element) → sizes (filter test elements) ≤ sizes elements
filter_sizes test [] = omega arith
filter_sizes test (element ∷ elements) = elim (test element) as (λ b. sizes (if b then element ∷ filter test elements else filter test elements) ≤ sizes (element ∷ elements)) [
  | true ↦ omega (arith, sum_by-cons element_size element (filter test elements), sum_by-cons element_size element elements, filter_sizes test elements)
  | false ↦ omega (arith, sum_by-cons element_size element elements, filter_sizes test elements)
]

pub take_sizes : (elements : List Element) (n : ℕ) → sizes (take n elements) ≤ sizes elements
take_sizes elements n = sum_by-take-le element_size elements n

pub named_sizes : (space name : List ℕ) (element : Element) → 4 + sizes (named space name element) ≤ element_size element
named_sizes space name element = omega (arith, children_size element, filter_sizes (has_name space name) (children element))

pub first_sizes : (space name : List ℕ) (element : Element) → 4 + sizes (first_named space name element) ≤ element_size element
first_sizes space name element = omega (arith, named_sizes space name element, take_sizes (named space name element) 1)

-- what is found in each of some elements
pub found_sizes : (found : Element → List Element) → ((element : Element) → sizes (found element) ≤ element_size element) → (elements : List Element) → sizes (flat_map found elements) ≤ sizes elements
found_sizes found h [] = omega arith
found_sizes found h (element ∷ elements) =
    omega (arith, sum_by-append element_size (found element) (flat_map found elements), h element, found_sizes found h elements, sum_by-cons element_size element elements)

-- what is made of each of some elements
pub made_sizes : {Y : Type 0} (measure : Y → ℕ) (make : Element → Y) → ((element : Element) → measure (make element) ≤ element_size element) → (elements : List Element) → sum_by measure (map make elements) ≤ sizes elements
made_sizes measure make h [] = omega arith
made_sizes measure make h (element ∷ elements) =
    omega (arith, sum_by-cons measure (make element) (map make elements), h element, made_sizes measure make h elements, sum_by-cons element_size element elements)

-- four for each, and what they measure
pub four_each : {Y : Type 0} (measure : Y → ℕ) (those : List Y) → sum_by (λ one. 4 + measure one) those ≡ 4 * length those + sum_by measure those
four_each measure [] = omega arith
four_each measure (one ∷ those) = omega (arith, sum_by-cons (λ o. 4 + measure o) one those, sum_by-cons measure one those, four_each measure those)

-- Attributes

value_length : Option Attr → ℕ
value_length None = 0
value_length (Some attr) = length attr.value

found_length : (test : Attr → Bool) (attrs : List Attr) → value_length (find test attrs) ≤ sum_by value_size attrs
unfolding value_length
found_length test [] = omega arith
found_length test (attr ∷ attrs) = elim (test attr) as (λ b. value_length (if b then Some attr else find test attrs) ≤ sum_by value_size (attr ∷ attrs)) [
  | true ↦ omega (arith, sum_by-cons value_size attr attrs)
  | false ↦ omega (arith, sum_by-cons value_size attr attrs, found_length test attrs)
]

pub attribute_length : (name : List ℕ) (element : Element) → length (unwrap_or (attribute_of name element) []) ≤ attrs_size element
unfolding value_length
attribute_length name element = omega (arith, found_length (is_attribute name) element.attrs, by (find (is_attribute name) element.attrs))
  where
    by : (found : Option Attr) → length (unwrap_or (option_map (λ (attr : Attr). attr.value) found) []) ≡ value_length found
    by None = refl
    by (Some attr) = refl

pub name_length : (element : Element) → length (name_of element) ≤ attrs_size element
name_length element = omega (arith, length-map (unwrap_or (attribute_of (codes "name") element) []) raised, attribute_length (codes "name") element)

-- Texts with an octet between them

pub joined_length : (octet : ℕ) (texts : List (List ℕ)) → length (join_with_byte octet texts) ≤ sum_by (λ text. 1 + length text) texts
joined_length octet [] = omega arith
joined_length octet (text ∷ []) = omega (arith, sum_by-cons (λ (one : List ℕ). 1 + length one) text [])
joined_length octet (text ∷ next ∷ texts) =
    omega (arith, length-append text (octet ∷ join_with_byte octet (next ∷ texts)), joined_length octet (next ∷ texts), sum_by-cons (λ (one : List ℕ). 1 + length one) text (next ∷ texts))
