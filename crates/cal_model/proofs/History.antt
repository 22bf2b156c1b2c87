-- Laws of journals: an accepted entry keeps a journal legal, and the pieces of objects that are still there stay right. For the book.
pub mod ReplayLaws
pub mod JournalLaws
pub mod EntryLaws
pub mod LiveObjectLaws
pub mod OriginLaws
pub mod RightPieceLaws
