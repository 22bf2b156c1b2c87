pub mod Boards
pub mod Lanes
pub mod Counts
pub mod Out
pub mod Kept
pub mod Entries
pub mod Shelved
