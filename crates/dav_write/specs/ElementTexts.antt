-- The text of an element in pieces, as they are written one after another.
use Rattle.std.specs.Prelude.{ℕ, List, [], ◌++◌, Some, None, codes, decimal}
use Rattle.cal_base.specs.declared.element.Attr.{Attr}
use Rattle.cal_base.specs.declared.element.Item.{Item}
use Rattle.cal_base.specs.declared.element.Item.TheFolds.{fold-Item}
use Rattle.cal_base.specs.Xml.CanonicalXml.{attribute_text, declaration, known_prefix, written_attributes, item_step, element_step}

-- the name of an element with the prefix of its namespace
unfoldable pub element_name : List ℕ → List ℕ → List ℕ
element_name space name = elim (known_prefix space) [ None ↦ codes "x:" ++ name | Some prefix ↦ prefix ++ name ]

-- the declaration of its namespace, where the root has none of it
unfoldable pub own_declaration : List ℕ → List ℕ
own_declaration space = elim (known_prefix space) [ None ↦ declaration (codes "x") space | Some prefix ↦ [] ]

-- the tag that opens an element, without its end
abbrev pub tag_front : List ℕ → List ℕ → List ℕ → List Attr → List ℕ
tag_front declarations space name attrs = codes "<" ++ (element_name space name ++ (declarations ++ (own_declaration space ++ written_attributes attrs)))

-- the tag that closes it
abbrev pub end_tag : List ℕ → List ℕ → List ℕ
end_tag space name = codes "</" ++ (element_name space name ++ codes ">")

-- what is assigned to an attribute
unfoldable pub value_text : List ℕ → List ℕ
value_text value = codes "=\"" ++ (attribute_text value ++ codes "\"")

-- the prefix of the namespace of an attribute, by its place
unfoldable pub own_prefix : ℕ → List ℕ
own_prefix place = codes "y" ++ decimal place

-- an attribute in a namespace with a prefix at the root, or in none, and one in another
abbrev pub known_attribute : List ℕ → Attr → List ℕ
known_attribute prefix attr = codes " " ++ (prefix ++ (attr.name ++ value_text attr.value))

abbrev pub own_attribute : ℕ → Attr → List ℕ
own_attribute place attr =
    codes " xmlns:" ++ (own_prefix place ++ (value_text attr.space ++ (codes " " ++ (own_prefix place ++ (codes ":" ++ (attr.name ++ value_text attr.value))))))

-- the text of an item
abbrev pub item_text : Item → List ℕ
item_text = fold-Item (List ℕ) (List ℕ → List ℕ) item_step element_step
