-- Worked examples of the elements that bodies spell. What each spells is what XML 1.0 and Namespaces in XML 1.0 say of it.
use Rattle.std.specs.Prelude.{◌≡◌, refl, ℕ, List, [], ◌∷◌, ◌++◌, length, codes}
use Rattle.std.specs.Str.{is_utf8, chars}
use lib.Utf8.{encode}
use Rattle.cal_base.specs.declared.element.Attr.{Attr}
use Rattle.cal_base.specs.declared.element.Element.{Element}
use Rattle.cal_base.specs.declared.element.Item.{Item}
use Rattle.cal_base.specs.declared.element.Item.TheVariants.{Element as Inner, Text}
use Rattle.cal_base.specs.Xml.XmlBodies.{IsBody}

abbrev element : List ℕ → List ℕ → List Attr → List Item → Element
element space name attrs items = record { space = space; name = name; attrs = attrs; items = items }

-- an attribute in no namespace
abbrev plain : List ℕ → List ℕ → Attr
plain name value = record { space = []; name = name; value = value }

abbrev only_text : List ℕ → List ℕ → Element
only_text name text = element [] name [] (Text text ∷ [])

-- A query

abbrev caldav : List ℕ
caldav = codes "urn:ietf:params:xml:ns:caldav"

-- RFC 4791, 7.8: a query for the entity tags and data of the events in a range, as a client writes it
abbrev query : List ℕ
query =
    codes "<C:calendar-query xmlns:D=\"DAV:\" xmlns:C=\"urn:ietf:params:xml:ns:caldav\"><D:prop><D:getetag/><C:calendar-data/></D:prop>"
    ++ codes "<C:filter><C:comp-filter name=\"VCALENDAR\"><C:comp-filter name=\"VEVENT\">"
    ++ codes "<C:time-range start=\"20060102T000000Z\" end=\"20060103T000000Z\"/>"
    ++ codes "</C:comp-filter></C:comp-filter></C:filter></C:calendar-query>"

-- it has 316 octets
query_size : length query ≡ 316
query_size = refl

abbrev query_element : Element
query_element = element caldav (codes "calendar-query") [] (
    Inner (element (codes "DAV:") (codes "prop") [] (
    Inner (element (codes "DAV:") (codes "getetag") [] [])
    ∷ Inner (element caldav (codes "calendar-data") [] [])
    ∷ []))
    ∷ Inner (element caldav (codes "filter") [] (
    Inner (element caldav (codes "comp-filter") (plain (codes "name") (codes "VCALENDAR") ∷ []) (
    Inner (element caldav (codes "comp-filter") (plain (codes "name") (codes "VEVENT") ∷ []) (
    Inner (element caldav (codes "time-range") (plain (codes "start") (codes "20060102T000000Z") ∷ plain (codes "end") (codes "20060103T000000Z") ∷ []) [])
    ∷ []))
    ∷ []))
    ∷ []))
    ∷ [])

query_spells : IsBody query query_element
unfolding is_utf8 chars encode
query_spells = record { sound = refl; spelled = refl }

-- Namespaces

-- the default is that of elements and of what stands in them, not of attributes; it can be taken back
default_namespace : IsBody (codes "<a xmlns='u' b='1'><c><d xmlns=''/></c></a>") (element (codes "u") (codes "a") (plain (codes "b") (codes "1") ∷ []) (
    Inner (element (codes "u") (codes "c") [] (Inner (element [] (codes "d") [] []) ∷ [])) ∷ []))
unfolding is_utf8 chars encode
default_namespace = record { sound = refl; spelled = refl }

-- a prefix that is bound anew, in the tag that it names, and not behind that element
bound_anew : IsBody (codes "<p:a xmlns:p='u'><p:b xmlns:p='v' p:c=''/><p:d/></p:a>") (element (codes "u") (codes "a") [] (
    Inner (element (codes "v") (codes "b") (record { space = codes "v"; name = codes "c"; value = [] } ∷ []) [])
    ∷ Inner (element (codes "u") (codes "d") [] [])
    ∷ []))
unfolding is_utf8 chars encode
bound_anew = record { sound = refl; spelled = refl }

-- `xml` needs no declaration, and a declaration's references are replaced
xml_prefix : IsBody (codes "<a xmlns='u&amp;v' xml:lang='de'/>") (element (codes "u&v") (codes "a") (
    record { space = codes "http://www.w3.org/XML/1998/namespace"; name = codes "lang"; value = codes "de" } ∷ []) [])
unfolding is_utf8 chars encode
xml_prefix = record { sound = refl; spelled = refl }

-- Text

-- text, references, sections and what stands beside a comment are one text
one_text : IsBody (codes "<a>x<!-- c -->y<![CDATA[<z>&amp;]]>&amp;<?t d?>w</a>") (only_text (codes "a") (codes "xy<z>&amp;&w"))
unfolding is_utf8 chars encode
one_text = record { sound = refl; spelled = refl }

-- by number, decimal and hexadecimal in either case, and by name
references : IsBody (codes "<a>&#65;&#x4a;&#x4A;&#x20AC;&lt;&gt;&quot;&apos;</a>") (only_text (codes "a") (codes "AJJ" ++ 0xE2 ∷ 0x82 ∷ 0xAC ∷ codes "<>\"'"))
unfolding is_utf8 chars encode
references = record { sound = refl; spelled = refl }

-- CR LF and CR are LF in text and in a section; by number they stay, and each markup ends its line for itself
line_ends : IsBody (codes "<a>1\r\n2\r3\n\r4<![CDATA[\r\n\r]]>&#13;&#10;\r</a>") (only_text (codes "a") (codes "1\n2\n3\n\n4\n\n\r\n\n"))
unfolding is_utf8 chars encode
line_ends = record { sound = refl; spelled = refl }

-- an empty section and an empty comment are no text; blanks are
no_text : IsBody (codes "<a><![CDATA[]]><!----><b> </b></a>") (element [] (codes "a") [] (Inner (only_text (codes "b") (codes " ")) ∷ []))
unfolding is_utf8 chars encode
no_text = record { sound = refl; spelled = refl }

-- text between elements stays where it stood
between : IsBody (codes "<a>1<b/>2<b></b >3</a\n>") (element [] (codes "a") [] (
    Text (codes "1") ∷ Inner (element [] (codes "b") [] []) ∷ Text (codes "2") ∷ Inner (element [] (codes "b") [] []) ∷ Text (codes "3") ∷ []))
unfolding is_utf8 chars encode
between = record { sound = refl; spelled = refl }

-- Attributes

-- either quote, the other and `>` within it, blanks around `=`, and white space in a value as it stands
attributes : IsBody (codes "<a b='x\"y' c = \"x'>y\"\n\td='\r\n\t&#10;'/>") (element [] (codes "a") (
    plain (codes "b") (codes "x\"y") ∷ plain (codes "c") (codes "x'>y") ∷ plain (codes "d") (codes "\r\n\t\n") ∷ []) [])
unfolding is_utf8 chars encode
attributes = record { sound = refl; spelled = refl }

-- Around the root

-- a mark, a declaration, blanks, comments and instructions
around_root : IsBody (0xEF ∷ 0xBB ∷ 0xBF ∷ codes "<?xml version=\"1.0\" encoding='Utf-8'?>\r\n<!-- c --> <?t d?><a>x</a>\n<!-- d -->") (only_text (codes "a") (codes "x"))
unfolding is_utf8 chars encode
around_root = record { sound = refl; spelled = refl }
