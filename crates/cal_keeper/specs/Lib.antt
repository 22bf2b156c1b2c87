pub mod Disks
pub mod Files
pub mod Keepers
pub mod Principals
pub mod Steps
