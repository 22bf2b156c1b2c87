-- The properties of resources (RFC 4918, 4, 9.1, 9.2 and 15; RFC 3744, 4 and 5; RFC 4791, 5.2 and 6.2.1).
-- Given: a resource as its caller sees it, and names of properties or settings. PropertyTable is the answer: a row for each property, so a new property is a new row. PropertyValues has the contents that the rows name.
-- Settings says what may be set and what is then there; PropertyReplies how answers stand in a multistatus.
pub mod PropertyValues
pub mod PropertyTable
pub mod Settings
pub mod PropertyReplies
