pub mod OpeningOrigins
pub mod SlotLemmas
