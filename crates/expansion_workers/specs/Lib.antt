-- What the work of a worker counts.
pub mod Work
