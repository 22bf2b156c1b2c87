pub mod Segments
pub mod ShortPaths
pub mod ErrorTexts
pub mod Readable
pub mod ElementTexts
pub mod EscapedOctets
