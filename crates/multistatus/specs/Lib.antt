pub mod PropertyTags
pub mod ReplyPieces
pub mod Answered
pub mod NameKeys
