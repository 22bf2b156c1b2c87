-- What a history keeps, the state in step with the entries that led to it (KeptHistories), and the entry of a deletion (Deletions).
pub mod KeptHistories
pub mod Deletions
