pub mod Checks
pub mod CountedObjects
pub mod FoundOctets
