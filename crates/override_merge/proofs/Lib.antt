pub mod DayLemmas
pub mod MergeLemmas
pub mod NameLemmas
pub mod OrderLemmas
pub mod ReadObjects
pub mod StampLemmas
pub mod ZoneLemmas
