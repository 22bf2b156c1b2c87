pub mod LengthLemmas
pub mod StretchLemmas
pub mod WindowsFound
