-- Each text is a body with one element or has one first fault, and not both.
pub mod XmlNameLemmas
pub mod XmlMarkupLemmas
pub mod XmlTagLemmas
pub mod XmlEscapeLemmas
pub mod XmlBodyLaws
pub mod XmlSizeLemmas
pub mod CanonicalXmlLemmas
