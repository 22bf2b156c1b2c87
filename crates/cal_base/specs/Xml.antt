-- Which element a body spells, or its first fault, and the one text in which an element is written (XML 1.0; Namespaces in XML 1.0).
-- Given: octets. Names and markup are read first, then scopes, bodies and faults.
pub mod XmlNames
pub mod XmlMarkup
pub mod XmlScopes
pub mod XmlBodies
pub mod XmlFaults
pub mod XmlSizes
pub mod CanonicalXml
