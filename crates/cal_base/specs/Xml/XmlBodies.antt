-- The element that a body spells (XML 1.0; Namespaces in XML 1.0; RFC 4918, 8.2). The markup is read from its end, each level
-- as what it holds under the scope around it; no stack goes from the front.
use Rattle.std.specs.Prelude.{◌≡◌, ℕ, ◌==◌, if◌then◌else◌, List, [], ◌∷◌, ◌++◌, drop, filter_map, Option, Some, None, unwrap_or}
use Rattle.cal_base.specs.declared.element.Element.{Element}
use Rattle.cal_base.specs.declared.element.Item.{Item}
use Rattle.cal_base.specs.declared.element.Item.TheVariants.{Element as InnerElement, Text}
use Rattle.cal_base.specs.Texts.Octets.{line_feed, carriage_return}
use Rattle.cal_base.specs.Xml.XmlMarkup.{Tag, Markup, opening, closing, character, section, reference, skipped, markups, markup_of, referenced}
use Rattle.cal_base.specs.Xml.XmlScopes.{Scope, outer_scope, declarations, space_of, attributes_in}
use Rattle.cal_base.specs.Xml.XmlFaults.{Why, mark_size, is_declaration, body_fault}

-- What an element holds

-- text, or an element
pub data Part : Type 0 where
  said : List ℕ → Part
  held : Element → Part

-- no item for empty text
abbrev pub text_items : List ℕ → List Item
text_items [] = []
text_items (octet ∷ text) = Text (octet ∷ text) ∷ []

-- the items of some parts behind a text: text beside text is one
abbrev pub items_behind : List ℕ → List Part → List Item
items_behind text [] = text_items text
items_behind text (said more ∷ parts) = items_behind (text ++ more) parts
items_behind text (held element ∷ parts) = text_items text ++ InnerElement element ∷ items_behind [] parts

-- CR LF, and CR alone, is one LF (XML 1.0, 2.11)
abbrev pub with_line_feeds : List ℕ → List ℕ
with_line_feeds [] = []
with_line_feeds (octet ∷ []) = if octet == carriage_return then line_feed ∷ [] else octet ∷ []
with_line_feeds (octet ∷ next ∷ text) =
    (if octet == carriage_return then (if next == line_feed then [] else line_feed ∷ []) else octet ∷ []) ++ with_line_feeds (next ∷ text)

-- The levels

-- what stands behind a place up to the end of its level, under the scope of the level
abbrev pub Level : Type 0
Level = Scope → List Part

-- the element of a tag, given the scope around it and what it holds
abbrev pub element_of_tag : Tag → Level → Scope → Element
element_of_tag tag level around =
    let scope = declarations tag ++ around in
    record {
      space = unwrap_or (space_of scope tag.name.prefix) [];
      name = tag.name.local;
      attrs = attributes_in scope tag;
      items = items_behind [] (level scope);
    }

-- one more part before what follows it
abbrev pub with_part : (Scope → Part) → List Level → List Level
with_part part [] = []
with_part part (level ∷ levels) = (λ scope. part scope ∷ level scope) ∷ levels

-- an opening: its level is whole, and is an element of the level around it
abbrev pub with_opening : Tag → List Level → List Level
with_opening tag [] = []
with_opening tag (level ∷ levels) = with_part (λ scope. held (element_of_tag tag level scope)) levels

-- a tag of an element, which may be empty
abbrev pub with_tag : Tag → List Level → List Level
with_tag tag levels = with_opening tag (if tag.is_empty then (λ scope. []) ∷ levels else levels)

-- the levels that are open before some markup, the innermost first
abbrev pub levels_before : List Markup → List Level
levels_before [] = (λ scope. []) ∷ []
levels_before (opening tag ∷ more) = with_tag tag (levels_before more)
levels_before (closing name ∷ more) = (λ scope. []) ∷ levels_before more
levels_before (character text ∷ more) = with_part (λ scope. said (with_line_feeds text)) (levels_before more)
levels_before (section text ∷ more) = with_part (λ scope. said (with_line_feeds text)) (levels_before more)
levels_before (reference name ∷ more) = with_part (λ scope. said (unwrap_or (referenced name) [])) (levels_before more)
levels_before (skipped ∷ more) = levels_before more

-- the first element of some parts
abbrev pub first_element : List Part → Option Element
first_element [] = None
first_element (said text ∷ parts) = first_element parts
first_element (held element ∷ parts) = Some element

abbrev pub outermost : List Level → Option Element
outermost [] = None
outermost (level ∷ levels) = first_element (level outer_scope)

-- Bodies

-- the markup behind the declaration, if there is one
abbrev pub without_declaration : List (List ℕ) → List (List ℕ)
without_declaration [] = []
without_declaration (text ∷ texts) = if is_declaration text then texts else text ∷ texts

-- the element that the octets of a body without a fault spell
abbrev pub body_element : List ℕ → Option Element
body_element octets =
    outermost (levels_before (filter_map markup_of (without_declaration (markups (drop (mark_size octets) octets)))))

-- the octets are a body, and this is its element
pub record IsBody (octets : List ℕ) (element : Element) : Type 0 where
  pub sound : body_fault octets ≡ None
  pub spelled : body_element octets ≡ Some element

-- the octets are no body, and this is the first fault
abbrev pub IsBodyFault : List ℕ → ℕ → Why → Type 0
IsBodyFault octets place why = body_fault octets ≡ Some (record { place = place; why = why })
