pub mod TreeLemmas
pub mod DescentLemmas
