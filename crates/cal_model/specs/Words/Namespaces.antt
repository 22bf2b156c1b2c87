-- The namespaces of the elements and properties that this server knows (RFC 4918, 21.1; RFC 4791, 4).
pub use Rattle.cal_base.specs.Xml.CanonicalXml.{dav, caldav}
