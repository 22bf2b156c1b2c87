-- Steps on lists, whole numbers and ends of texts that the laws of the other chapters share. What holds of each element is stated twice, as std has it twice: by
-- recursion (EachLemmas) and by places (AllLemmas).
pub mod CountedLemmas
pub mod CountedRuns
pub mod EachLemmas
pub mod AllLemmas
pub mod IntegerLemmas
pub mod ListTests
pub mod EndLemmas
