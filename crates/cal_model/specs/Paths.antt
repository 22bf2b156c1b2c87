-- Paths as they are read (RFC 3986, 2.1 and 3.3; RFC 9112, 3.2).
-- Given: the target of a request or an href of a body. TargetPaths is the whole.
pub mod TargetPaths
pub mod TargetPathLaws
