-- A multistatus in pieces, as they are written one after another (RFC 4918, 14.16 to 14.28).
use Rattle.std.specs.Prelude.{ℕ, List, ◌++◌, codes}
use Rattle.cal_base.specs.Xml.CanonicalXml.{prefixes}
use Rattle.cal_model.specs.declared.property.PropName.{PropName}
use Rattle.cal_model.specs.Replies.Statuses.{status_line}
use Rattle.cal_model.specs.Replies.XmlText.{element, xml_text}
use Rattle.cal_model.specs.Properties.PropertyTable.{Answer}
use Rattle.multistatus.specs.declared.statuses.PropStatus.{PropStatus}
use Rattle.multistatus.specs.declared.statuses.PropStatus.TheVariants.{Found, NotFound, Forbidden, FailedDependency}

-- what stands before the first response
unfoldable pub begun : List ℕ
begun = codes "<?xml version=\"1.0\" encoding=\"utf-8\"?>\n<D:multistatus" ++ (prefixes ++ codes ">")

-- the number of a status (RFC 9110, 15; RFC 4918, 11.4)
abbrev pub number_of : PropStatus → ℕ
number_of Found = 200
number_of NotFound = 404
number_of Forbidden = 403
number_of FailedDependency = 424

abbrev pub status_element : ℕ → List ℕ
status_element status = element (codes "D:status") (status_line status)

-- the tag of a response, and the href of its resource
abbrev pub response_front : List ℕ → List ℕ
response_front href = codes "<D:response>" ++ element (codes "D:href") (xml_text href)

-- what stands before the elements of properties that have one status, and behind them
abbrev pub propstat_front : List ℕ
propstat_front = codes "<D:propstat><D:prop>"

abbrev pub propstat_end : ℕ → List ℕ
propstat_end status = codes "</D:prop>" ++ (status_element status ++ codes "</D:propstat>")

-- a property that is there, with a text as its content
abbrev pub with_text : PropName → List ℕ → Answer
with_text name text = record { name = name; status = 200; content = xml_text text }
