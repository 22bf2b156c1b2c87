pub mod TagLemmas
pub mod ReplyLemmas
pub mod NameLemmas
