-- Worked examples of the canonical text of an element, and that it is read back.
use Rattle.std.specs.Prelude.{◌≡◌, refl, ℕ, List, [], ◌∷◌, ◌++◌, codes}
use Rattle.std.specs.Str.{is_utf8, chars}
use Rattle.std.specs.Fmt.{digits}
use lib.Utf8.{encode}
use Rattle.cal_base.specs.declared.element.Attr.{Attr}
use Rattle.cal_base.specs.declared.element.Element.{Element}
use Rattle.cal_base.specs.declared.element.Item.{Item}
use Rattle.cal_base.specs.declared.element.Item.TheVariants.{Element as Inner, Text}
use Rattle.cal_base.specs.Xml.XmlBodies.{IsBody}
use Rattle.cal_base.specs.Xml.CanonicalXml.{xml_text, attribute_text, written_body}
use Rattle.cal_base.proofs.Xml.CanonicalXmlLemmas.{written_element-out, written_item-Text, written_item-Element}

abbrev element : List ℕ → List ℕ → List Attr → List Item → Element
element space name attrs items = record { space = space; name = name; attrs = attrs; items = items }

abbrev head : List ℕ
head = codes "<?xml version=\"1.0\" encoding=\"utf-8\"?>\n"

-- without content it is one tag
empty_text : written_body (element (codes "DAV:") (codes "multistatus") [] []) ≡ head ++ codes "<D:multistatus xmlns:D=\"DAV:\" xmlns:C=\"urn:ietf:params:xml:ns:caldav\"/>"
unfolding digits attribute_text
empty_text = simp (written_element-out) refl

-- another namespace, none, text to be escaped
abbrev error : Element
error = element (codes "DAV:") (codes "error") [] (
    Text (codes "a<&>\"\r\n") ∷ Inner (element (codes "u") (codes "n") [] (Inner (element [] (codes "p") [] []) ∷ [])) ∷ [])

error_text : written_body error ≡ head
    ++ codes "<D:error xmlns:D=\"DAV:\" xmlns:C=\"urn:ietf:params:xml:ns:caldav\">a&lt;&amp;&gt;\"&#13;\n<x:n xmlns:x=\"u\"><p/></x:n></D:error>"
unfolding digits attribute_text xml_text
error_text = simp (written_element-out, written_item-Text, written_item-Element) refl

-- attributes: in no namespace, in that of `xml`, in one of the root's, and in others, by their place
abbrev attributed : Element
attributed = element (codes "urn:ietf:params:xml:ns:caldav") (codes "a") (
    record { space = []; name = codes "b"; value = codes "\"&\t" }
    ∷ record { space = codes "http://www.w3.org/XML/1998/namespace"; name = codes "lang"; value = codes "de" }
    ∷ record { space = codes "u\""; name = codes "c"; value = [] }
    ∷ record { space = codes "DAV:"; name = codes "d"; value = [] }
    ∷ record { space = codes "v"; name = codes "e"; value = [] }
    ∷ []) []

attributed_text : written_body attributed ≡ head ++ codes "<C:a xmlns:D=\"DAV:\" xmlns:C=\"urn:ietf:params:xml:ns:caldav\" b=\"&quot;&amp;\t\""
    ++ codes " xml:lang=\"de\" xmlns:y2=\"u&quot;\" y2:c=\"\" D:d=\"\" xmlns:y4=\"v\" y4:e=\"\"/>"
unfolding digits attribute_text xml_text
attributed_text = simp (written_element-out) refl

-- a root in another namespace declares its own prefix behind the two
other_root : written_body (element (codes "u") (codes "a") [] []) ≡ head ++ codes "<x:a xmlns:D=\"DAV:\" xmlns:C=\"urn:ietf:params:xml:ns:caldav\" xmlns:x=\"u\"/>"
unfolding digits attribute_text xml_text
other_root = simp (written_element-out) refl

-- what is written is read back
error_back : IsBody (written_body error) error
unfolding is_utf8 chars encode digits attribute_text xml_text
error_back = simp (written_element-out, written_item-Text, written_item-Element) (record { sound = refl; spelled = refl })

attributed_back : IsBody (written_body attributed) attributed
unfolding is_utf8 chars encode digits attribute_text xml_text
attributed_back = simp (written_element-out) (record { sound = refl; spelled = refl })
