pub mod Appending
pub mod CutLemmas
pub mod SegmentLemmas
pub mod PathLemmas
pub mod ErrorLemmas
pub mod ReadBack
pub mod ElementLemmas
pub mod TextRuns
