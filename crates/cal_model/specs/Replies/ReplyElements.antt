-- The elements that properties and conditions share: a path, and a privilege (RFC 4918, 14.7; RFC 3744, 5.3).
-- Given: a path, or the name of a privilege. Gives: the element as it is written, with the prefixes that the root declares.
use Rattle.std.specs.Prelude.{ℕ, List, [], codes}
use Rattle.cal_base.specs.Xml.CanonicalXml.{named_element}
use Rattle.cal_model.specs.declared.path.Path.{Path}
use Rattle.cal_model.specs.declared.property.PropName.{PropName}
use Rattle.cal_model.specs.Replies.Hrefs.{href}
use Rattle.cal_model.specs.Replies.XmlText.{element, xml_text}

abbrev pub href_element : Path → List ℕ
href_element path = element (codes "D:href") (xml_text (href path))

-- an element without content, of its namespace
abbrev pub empty_element : PropName → List ℕ
empty_element name = named_element [] name.space name.name [] []

abbrev pub privilege_element : PropName → List ℕ
privilege_element name = element (codes "D:privilege") (empty_element name)
