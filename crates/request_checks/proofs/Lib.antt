pub mod SightingLemmas
pub mod HomeLemmas
pub mod LeastScenes
pub mod NameLemmas
