-- What holds of what a worker holds of a book. It serves the proofs of this crate alone.
pub mod Slots
