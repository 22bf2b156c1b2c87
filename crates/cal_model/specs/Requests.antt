-- What a request on the wire asks for (RFC 9110, 9; RFC 4918, 9; RFC 4791, 5.3 and 7; RFC 3744, 8.1).
-- Given: a request as it came, and the users. Gives: a refusal before any state is looked at, or a user and a typed request. AskedRequests is the whole; BookableRequests is what every such request has: ContentBounds (its numbers and lengths) and MethodContents (its content is that of its method) are read before it.
pub mod Methods
pub mod FieldValues
pub mod ConditionalTags
pub mod AskedRequests
pub mod ContentBounds
pub mod MethodContents
pub mod BookableRequests
