-- What is known of each element that was read: enough for its canonical text to be read back as that element.
use Rattle.std.specs.Prelude.{◌≡◌, ◌<◌, ◌^◌, ⊤, ℕ, zero, suc, true, false, ◌&&◌, ◌==◌, List, [], ◌∷◌, length, codes}
use Rattle.std.specs.Str.{bytes_eq}
use Rattle.cal_base.specs.declared.element.Attr.{Attr}
use Rattle.cal_base.specs.declared.element.Element.{Element}
use Rattle.cal_base.specs.Xml.XmlNames.{is_plain_name, is_xml_text}
use Rattle.cal_base.specs.Xml.XmlScopes.{xmlns_space, has_repeat, is_same_attribute}
use Rattle.cal_base.specs.Xml.XmlFaults.{greatest_depth}
use Rattle.cal_base.specs.Xml.XmlBodies.{Part, said, held, items_behind, IsBody}
use Rattle.cal_base.specs.Xml.CanonicalXml.{written_body}

-- a namespace that a name can be in: text, and not the namespace of `xmlns`
pub record IsSpace (space : List ℕ) : Type 0 where
  pub characters : is_xml_text space ≡ true
  pub other : bytes_eq space xmlns_space ≡ false

-- an attribute that no declaration is
pub record IsAttr (attr : Attr) : Type 0 where
  pub space : IsSpace attr.space
  pub name : is_plain_name attr.name ≡ true
  pub value : is_xml_text attr.value ≡ true
  pub no_default : ((length attr.space == 0) && bytes_eq attr.name (codes "xmlns")) ≡ false

abbrev pub AreAttrs : List Attr → Type 0
AreAttrs [] = ⊤
AreAttrs (attr ∷ attrs) = IsAttr attr × AreAttrs attrs

-- what stands in the tag of an element
pub record HasTag (element : Element) : Type 0 where
  pub space : IsSpace element.space
  pub name : is_plain_name element.name ≡ true
  pub attrs : AreAttrs element.attrs
  pub once : has_repeat is_same_attribute element.attrs ≡ false
  pub few : length element.attrs < 2 ^ 64

-- text of characters, and elements of a kind
abbrev pub AreParts : (Element → Type 0) → List Part → Type 0
AreParts Held [] = ⊤
AreParts Held (said text ∷ parts) = (is_xml_text text ≡ true) × AreParts Held parts
AreParts Held (held element ∷ parts) = Held element × AreParts Held parts

-- an element of at most so many levels that can stand in a body
abbrev pub IsReadable : ℕ → Element → Type 0
IsReadable zero element = ⊥
IsReadable (suc depth) element =
    HasTag element × ((parts : List Part) × (items_behind [] parts ≡ element.items) × AreParts (IsReadable depth) parts)

-- an element that can stand in a body, whole
unfoldable pub IsSpellable : Element → Type 0
IsSpellable element = IsReadable greatest_depth element

-- THE LAW: the canonical text of an element that can stand in a body is a body that spells that element
abbrev pub WritingReads : Type 0
WritingReads = (element : Element) → IsSpellable element → IsBody (written_body element) element

-- an element that some octets spell can stand in a body. Octets in memory are fewer than that; `decimal`, which makes prefixes, knows numbers of up to 64 digits.
abbrev pub ReadingGives : Type 0
ReadingGives = (octets : List ℕ) (element : Element) → length octets < 2 ^ 64 → IsBody octets element → IsSpellable element

-- so its canonical text is a body that spells it
abbrev pub RoundTrip : Type 0
RoundTrip = (octets : List ℕ) (element : Element) → length octets < 2 ^ 64 → IsBody octets element → IsBody (written_body element) element
