-- The octets of a reply (RFC 9110; RFC 9112, 2.1 and 4; RFC 4918, 14).
-- Given: a typed reply, the moment, whether the connection closes, and whether the request was HEAD. ReplyOctets is the answer; WireReplies says when a reply closes the
-- connection, when it has no content, and what a fault of the stream is answered.
-- Read before it: Statuses (status lines), BareReplies (a status alone), ReplyForms (the forms of replies beside that), Etags (entity tags), DateField (the field Date), and for bodies Hrefs (paths as they are written),
-- XmlText (multistatus) and ReplyElements (the elements that properties and conditions share).
pub mod Statuses
pub mod BareReplies
pub mod ReplyForms
pub mod Etags
pub mod DateField
pub mod Hrefs
pub mod XmlText
pub mod ReplyElements
pub mod ReplyOctets
pub mod WireReplies
