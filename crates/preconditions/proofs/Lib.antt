pub mod FineObjects
pub mod FoundReadings
