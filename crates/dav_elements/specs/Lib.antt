pub mod AceAnswers
pub mod FilterFaults
pub mod NamelessPicks
pub mod Reasons
pub mod Texts
