pub mod Portions
pub mod Heads
pub mod Values
