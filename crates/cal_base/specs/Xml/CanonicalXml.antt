-- The one text in which an element is written as a body (RFC 4918, 14; Namespaces in XML 1.0). There is no white space between
-- elements. It is a fold over the element, one level at a time; what was declared above matters to no text below.
use Rattle.std.specs.Prelude.{ℕ, ◌==◌, if◌then◌else◌, List, [], ◌∷◌, ◌++◌, length, flat_map, Option, Some, None, codes, decimal}
use Rattle.std.specs.List.{concat, enumerate_from}
use Rattle.std.specs.Str.{bytes_eq}
use Rattle.cal_base.specs.declared.element.Attr.{Attr}
use Rattle.cal_base.specs.declared.element.Element.{Element}
use Rattle.cal_base.specs.declared.element.Item.{Item-F}
use Rattle.cal_base.specs.declared.element.Item.TheOpen.{Element-F}
use Rattle.cal_base.specs.declared.element.Item.TheFolds.{fold-Element}
use Rattle.cal_base.specs.Xml.XmlScopes.{xml_space}

-- The namespaces of the two prefixes that each root declares (RFC 4918, 21.1; RFC 4791, 4)

abbrev pub dav : List ℕ
dav = codes "DAV:"

abbrev pub caldav : List ℕ
caldav = codes "urn:ietf:params:xml:ns:caldav"

-- Escapes

-- an octet of text; the end of a line would be read back without its CR
abbrev pub text_octet : ℕ → List ℕ
text_octet octet =
    if octet == 38 then codes "&amp;"
    else if octet == 60 then codes "&lt;"
    else if octet == 62 then codes "&gt;"
    else if octet == 13 then codes "&#13;"
    else octet ∷ []

-- an octet of the value of an attribute
abbrev pub value_octet : ℕ → List ℕ
value_octet octet = if octet == 34 then codes "&quot;" else text_octet octet

-- some octets as text
unfoldable pub xml_text : List ℕ → List ℕ
xml_text octets = flat_map text_octet octets

-- some octets as the value of an attribute
unfoldable pub attribute_text : List ℕ → List ℕ
attribute_text octets = flat_map value_octet octets

-- Tags

-- an attribute with the space before it
abbrev pub attribute : List ℕ → List ℕ → List ℕ
attribute name value = codes " " ++ (name ++ (codes "=\"" ++ (attribute_text value ++ codes "\"")))

-- an element from its name, its attributes and its content; without content it is `<a/>`
abbrev pub element_with : List ℕ → List ℕ → List ℕ → List ℕ
element_with name attributes [] = codes "<" ++ (name ++ (attributes ++ codes "/>"))
element_with name attributes (first ∷ more) =
    codes "<" ++ (name ++ (attributes ++ (codes ">" ++ ((first ∷ more) ++ (codes "</" ++ (name ++ codes ">"))))))

-- the declaration of a prefix
abbrev pub declaration : List ℕ → List ℕ → List ℕ
declaration prefix space = attribute (codes "xmlns:" ++ prefix) space

-- the declarations of the root
abbrev pub prefixes : List ℕ
prefixes = declaration (codes "D") dav ++ declaration (codes "C") caldav

-- what stands before a name in a namespace that needs no declaration of its own: nothing for no namespace
abbrev pub known_prefix : List ℕ → Option (List ℕ)
known_prefix space =
    if length space == 0 then Some []
    else if bytes_eq space dav then Some (codes "D:")
    else if bytes_eq space caldav then Some (codes "C:")
    else if bytes_eq space xml_space then Some (codes "xml:")
    else None

-- an attribute of its place among those of its element, counted from 0; that place makes the prefix of another namespace
abbrev pub written_attribute : ℕ × Attr → List ℕ
written_attribute (place, attr) =
    let own = codes "y" ++ decimal place in
    elim (known_prefix attr.space) [
      | None ↦ declaration own attr.space ++ attribute (own ++ (codes ":" ++ attr.name)) attr.value
      | Some prefix ↦ attribute (prefix ++ attr.name) attr.value
    ]

abbrev pub written_attributes : List Attr → List ℕ
written_attributes attrs = flat_map written_attribute (enumerate_from 0 attrs)

-- Elements

-- an element of its namespace, name, attributes and content, given the declarations that stand first in its tag
abbrev pub named_element : List ℕ → List ℕ → List ℕ → List Attr → List ℕ → List ℕ
named_element declarations space name attrs content = elim (known_prefix space) [
  | None ↦ element_with (codes "x:" ++ name) (declarations ++ (declaration (codes "x") space ++ written_attributes attrs)) content
  | Some prefix ↦ element_with (prefix ++ name) (declarations ++ written_attributes attrs) content
]

-- one level, of the texts of its items
abbrev pub element_step : Element-F (List ℕ) (List ℕ → List ℕ) → List ℕ → List ℕ
element_step element declarations = named_element declarations element.space element.name element.attrs (concat element.items)

-- the text of an item; a root alone has declarations of its own
abbrev pub item_step : Item-F (List ℕ) (List ℕ → List ℕ) → List ℕ
item_step (Item-F.Element written) = written []
item_step (Item-F.Text text) = xml_text text

-- an element, given the declarations that stand first in its tag
abbrev pub written_element : Element → List ℕ → List ℕ
written_element = fold-Element (List ℕ) (List ℕ → List ℕ) item_step element_step

-- a whole body: the XML declaration, a line feed, and the root, which declares the two prefixes
abbrev pub written_body : Element → List ℕ
written_body root = codes "<?xml version=\"1.0\" encoding=\"utf-8\"?>\n" ++ written_element root prefixes
