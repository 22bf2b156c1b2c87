-- XML as this server writes it: one text for each content (RFC 4918, 14). There is no white space between elements.
-- Elements are those of WebDAV and CalDAV, with the prefixes that the root declares.
use Rattle.std.specs.Prelude.{ℕ, List, [], ◌++◌, codes}
pub use Rattle.cal_base.specs.Xml.CanonicalXml.{text_octet, value_octet, attribute, element_with, prefixes}
unfoldable pub use Rattle.cal_base.specs.Xml.CanonicalXml.{xml_text, attribute_text}
use Rattle.cal_model.specs.Replies.Statuses.{status_line}

-- an element without attributes
abbrev pub element : List ℕ → List ℕ → List ℕ
element name content = element_with name [] content

-- a whole body: the XML declaration, a line feed, and the root, which declares the prefixes
unfoldable pub document : List ℕ → List ℕ → List ℕ
document name content = codes "<?xml version=\"1.0\" encoding=\"utf-8\"?>\n" ++ element_with name prefixes content

-- what became of some properties (RFC 4918, 14.22): their elements and a status
abbrev pub propstat : List ℕ → ℕ → List ℕ
propstat properties status =
    element (codes "D:propstat") (element (codes "D:prop") properties ++ element (codes "D:status") (status_line status))

-- one resource of a multistatus (RFC 4918, 14.24): its path and what became of its properties
abbrev pub response : List ℕ → List ℕ → List ℕ
response href propstats = element (codes "D:response") (element (codes "D:href") (xml_text href) ++ propstats)

-- the body of status 207 (RFC 4918, 14.16)
abbrev pub multistatus : List ℕ → List ℕ
multistatus responses = document (codes "D:multistatus") responses
