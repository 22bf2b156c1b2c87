pub mod Added
pub mod Bounds
pub mod Chains
pub mod Counted
pub mod Entries
pub mod Firsts
pub mod Nodes
pub mod Walks
