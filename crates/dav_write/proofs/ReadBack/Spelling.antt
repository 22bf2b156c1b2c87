-- A text in a body, read as one markup or as parts of an element. What follows it is any text.
use Rattle.std.specs.Prelude.{◌≡◌, ℕ, Bool, true, false, List, [], ◌∷◌, ◌++◌, filter_map, Option, Some, None, codes}
use Rattle.cal_base.specs.Xml.XmlMarkup.{Tag, Markup, begins, markups, markup_of}
use Rattle.cal_base.specs.Xml.XmlScopes.{Scope, declarations, outer_scope, space_of, xml_space}
use Rattle.cal_base.specs.Xml.XmlFaults.{Fault, references_fault, first_fault}
use Rattle.cal_base.specs.Xml.XmlBodies.{Part, said, held, items_behind, Level, levels_before}
use Rattle.cal_base.specs.Xml.CanonicalXml.{xml_text, written_element, dav, caldav}

-- a text is one markup, whatever its place, before what follows it
pub record IsMarkup (text : List ℕ) (markup : Markup) (rest : List ℕ) : Type 0 where
  pub cut_off : markups (text ++ rest) ≡ text ∷ markups rest
  pub is : markup_of text ≡ Some markup
  pub sound : (place : ℕ) → ◌≡◌ {A = Option Fault} (references_fault place text) None

-- a text with no fault, where these tags are open
abbrev pub NoFault : List Tag → Bool → List ℕ → Type 0
NoFault around rooted text = (end place : ℕ) → first_fault end around rooted place (markups text) ≡ None

abbrev pub levels_of : List ℕ → List Level
levels_of text = levels_before (filter_map markup_of (markups text))

-- what the prefixes stand for within some tags
abbrev pub scope_in : List Tag → Scope
scope_in [] = outer_scope
scope_in (tag ∷ around) = declarations tag ++ scope_in around

-- no end of a section is made with what stands before
pub record NoEnd (text : List ℕ) : Type 0 where
  pub one : begins text (codes ">") ≡ false
  pub two : begins text (codes "]>") ≡ false

-- parts that make the same items
abbrev pub Alike : List Part → List Part → Type 0
Alike one other = (text : List ℕ) (more : List Part) → items_behind text (one ++ more) ≡ items_behind text (other ++ more)

-- the levels with some more parts in the first, as they are under one scope
pub record Grown (scope : Scope) (parts : List Part) (level : Level) (levels grown : List Level) : Type 0 where
  pub first : Level
  pub is : grown ≡ first ∷ levels
  pub new : List Part
  pub parts_of_first : first scope ≡ new ++ level scope
  pub alike : Alike new parts

-- a text spells parts within some tags, before what follows it
pub record Spells (around : List Tag) (text : List ℕ) (parts : List Part) (rest : List ℕ) : Type 0 where
  pub no_end : NoEnd (text ++ rest)
  pub sound : NoFault around true rest → NoFault around true (text ++ rest)
  pub grows : (level : Level) (levels : List Level) → levels_of rest ≡ level ∷ levels → Grown (scope_in around) parts level levels (levels_of (text ++ rest))

-- the canonical text of some parts
abbrev pub written_parts : List Part → List ℕ
written_parts [] = []
written_parts (said text ∷ parts) = xml_text text ++ written_parts parts
written_parts (held element ∷ parts) = written_element element [] ++ written_parts parts

-- a scope in which the prefixes of canonical texts stand for what they are to stand for
pub record HasKnown (scope : Scope) : Type 0 where
  pub none : space_of scope [] ≡ Some []
  pub dav_is : space_of scope (codes "D") ≡ Some dav
  pub caldav_is : space_of scope (codes "C") ≡ Some caldav
  pub xml_is : space_of scope (codes "xml") ≡ Some xml_space
