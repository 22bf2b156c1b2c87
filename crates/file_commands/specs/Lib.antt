pub mod FileEnds
pub mod FileTold
