-- The map is seen as the list of its pairs, and is copied pair by pair.
pub mod NameMapLemmas
pub mod CopyLemmas
