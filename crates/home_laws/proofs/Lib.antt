pub mod ChangeLemmas
pub mod EntryLemmas
pub mod JournalLemmas
pub mod OutcomeLemmas
pub mod ReplayLemmas
pub mod RowLemmas
pub mod SceneLemmas
pub mod TurnLemmas
