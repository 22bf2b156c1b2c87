-- What is looked for in an element: elements of a name in it, attributes in no namespace, and its own text.
-- Given: an element of a body. Whatever else stands in it is passed over (RFC 4918, 17).
use Rattle.std.specs.Prelude.{ℕ, zero, suc, Bool, false, not, ◌&&◌, ◌==◌, List, [], ◌∷◌, find, filter, flat_map, length, take, bytes_eq, codes, Option, Some, None, is_none, option_map, unwrap_or}
use Rattle.cal_base.specs.declared.element.Attr.{Attr}
use Rattle.cal_base.specs.declared.element.Element.{Element}
use Rattle.cal_base.specs.declared.element.Item.{Item, Item-F}
use Rattle.cal_base.specs.declared.element.Item.TheViews.{out-Item}
use Rattle.cal_base.specs.Xml.XmlFaults.{greatest_depth}
use Rattle.cal_base.specs.Texts.Text.{raised_all}
use Rattle.cal_model.specs.Words.Namespaces.{caldav}
use Rattle.cal_model.specs.Words.Lists.{is_empty}

-- The elements in an element

abbrev pub elements_of : Item-F Item Element → List Element
elements_of (Item-F.Element element) = element ∷ []
elements_of (Item-F.Text text) = []

abbrev pub item_elements : Item → List Element
item_elements item = elements_of (out-Item item)

abbrev pub children : Element → List Element
children element = flat_map item_elements element.items

-- an element has this namespace and this name
abbrev pub has_name : List ℕ → List ℕ → Element → Bool
has_name space name element = bytes_eq element.space space && bytes_eq element.name name

-- those of a name, in order
abbrev pub named : List ℕ → List ℕ → Element → List Element
named space name element = filter (has_name space name) (children element)

-- the first of a name, where one is expected once
abbrev pub first_named : List ℕ → List ℕ → Element → List Element
first_named space name element = take 1 (named space name element)

-- Its text and its attributes

abbrev pub text_of : Item-F Item Element → List ℕ
text_of (Item-F.Element element) = []
text_of (Item-F.Text text) = text

abbrev pub item_text : Item → List ℕ
item_text item = text_of (out-Item item)

-- its own text, without that of the elements in it
abbrev pub own_text : Element → List ℕ
own_text element = flat_map item_text element.items

abbrev pub is_attribute : List ℕ → Attr → Bool
is_attribute name attr = (length attr.space == 0) && bytes_eq attr.name name

-- the value of an attribute in no namespace
abbrev pub attribute_of : List ℕ → Element → Option (List ℕ)
attribute_of name element = option_map (λ (attr : Attr). attr.value) (find (is_attribute name) element.attrs)

-- Names and values that CalDAV has in attributes

-- the attribute `name`: names of components, properties and parameters compare without ASCII case, so they stand in upper case here
abbrev pub lacks_name : Element → Bool
lacks_name element = is_none (attribute_of (codes "name") element)

abbrev pub name_of : Element → List ℕ
name_of element = raised_all (unwrap_or (attribute_of (codes "name") element) [])

-- an attribute with this very value
abbrev pub says : List ℕ → List ℕ → Element → Bool
says attribute value element = elim (attribute_of attribute element) [ None ↦ false | Some other ↦ bytes_eq other value ]

-- an attribute with another value
abbrev pub says_other : List ℕ → List ℕ → Element → Bool
says_other attribute value element = elim (attribute_of attribute element) [ None ↦ false | Some other ↦ not (bytes_eq other value) ]

-- Elements of the namespace of CalDAV: all of a name, the first of a name, and whether there is one

abbrev pub each : List ℕ → Element → List Element
each name element = named caldav name element

abbrev pub only : List ℕ → Element → List Element
only name element = first_named caldav name element

abbrev pub has : List ℕ → Element → Bool
has name element = not (is_empty (each name element))

-- Elements within elements of their own kind. An element of a body stands at most 32 deep, so going so deep reaches all.

-- an element and those found in it, in these, and so on, to a depth
abbrev pub nested_to : ℕ → (Element → List Element) → Element → List Element
nested_to zero found element = []
nested_to (suc depth) found element = element ∷ flat_map (nested_to depth found) (found element)

abbrev pub nested : (Element → List Element) → Element → List Element
nested found element = nested_to greatest_depth found element
