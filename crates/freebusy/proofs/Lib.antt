pub mod Classes
pub mod Gatherings
mod Passed
mod Counts
mod Joining
mod Partitions
mod Stretches
mod Sweeping
