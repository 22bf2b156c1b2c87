-- Laws of the module `changes`: from what no shared row refuses, by the rows of each method (RowLemmas, HolderLemmas, ChangeLemmas, DeletionLemmas), to the outcome (OutcomeLemmas).
pub mod PassedLemmas
pub mod PlaceLemmas
pub mod HolderLemmas
pub mod RowLemmas
pub mod ChangeLemmas
pub mod OutcomeLemmas
pub mod DeletionLemmas
pub mod SceneLemmas
