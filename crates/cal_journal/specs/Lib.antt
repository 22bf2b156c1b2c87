pub mod KeptEntries
pub mod Behind
