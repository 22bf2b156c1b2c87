pub mod Bounds
pub mod NextMoments
pub mod Repeats
