-- The history of a server: the journal of accepted changes, the objects that it made, the pieces of their rows that are right, and what a worker does next. No standard speaks of these.
-- Given: accepted changes in their order, and pieces. Journal is read first: what an entry asked, where a journal leads, and when it is legal. Then LiveObjects and Origins (which object an entry made, and how a store knows it), RightPieces, and Claims.
-- KeptChanges ties the changes that a journal keeps to those that they are. HistoryLaws says what one more entry leaves as it was.
pub mod Journal
pub mod LiveObjects
pub mod Origins
pub mod RightPieces
pub mod Claims
pub mod KeptChanges
pub mod HistoryLaws
