-- Laws of the module `history`: a history stays in step with each entry that comes next (StepLemmas), and an accepted change has such an entry (AcceptedEntries); what looks share stays behind its entries (ShownLemmas).
pub mod EntryLemmas
pub mod StepLemmas
pub mod AcceptedEntries
pub mod ShownLemmas
