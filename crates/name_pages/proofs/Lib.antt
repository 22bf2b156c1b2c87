pub mod OrderLemmas
pub mod NamedLemmas
pub mod PageLemmas
pub mod PlaceLemmas
pub mod ChangeLemmas
pub mod SplitLemmas
