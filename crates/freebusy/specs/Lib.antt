pub mod Times
pub mod Ends
pub mod Left
pub mod Sweep
pub mod Gathering
