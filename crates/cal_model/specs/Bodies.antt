-- Bodies in XML, from an element to what a request carries (RFC 4918, RFC 4791, RFC 3744).
-- Given: the root element of a body. Gives: the content of a REPORT, PROPFIND, PROPPATCH, MKCALENDAR or ACL, or the first refusal. How octets become an element is defined below this crate.
-- ReportBodies, PropertyBodies and AclBodies are the whole; what stands before them are parts of bodies. AclLaws, ContentSizes and SoundReports say what the contents that are read have in common.
pub mod ElementParts
pub mod Refusals
pub mod RangeElements
pub mod FilterElements
pub mod DataElements
pub mod AskedProperties
pub mod ReportBodies
pub mod PropertyBodies
pub mod AclBodies
pub mod AclLaws
pub mod ContentSizes
pub mod SoundReports
