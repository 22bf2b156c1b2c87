-- What the book promises. EventSteps says what an event does to the journal and to what claims depend on; Cores what contracts see of a book; ClaimsOut what a claim is one of, and Publishing what the end of a claim makes of it. LegalJournals tests whether a journal is legal; Desks says what a desk tells of an event, a book perhaps with something beside it that may fail; Looks what a look shows, from which requests that only read are answered while the book goes on; PutOctets what is read of a PUT before its turn. ReplyReasons says that each reply can be written, and Completeness that what is not refused is done.
-- The others are for the crate's own functions: UpToDate says what a book keeps in step, EndedObjects which objects a change ends, and Books what holds of the whole.
-- Showing, Keeping, Answering and Checking are the words of its modules `view`, `history`, `reads` and `changes`.
pub mod EventSteps
pub mod ClaimsOut
pub mod UpToDate
pub mod EndedObjects
pub mod Cores
pub mod Books
pub mod Publishing
pub mod LegalJournals
pub mod Desks
pub mod ReplyReasons
pub mod Completeness
pub mod Showing
pub mod Keeping
pub mod Answering
pub mod Looks
pub mod PutOctets
pub mod Checking
