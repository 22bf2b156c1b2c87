-- The journal file: its form, octet by octet, what it stands for, and what making, opening, reading and appending do. It is this project's own.
-- Given: what a crash may leave of a file (Disks), and the entries of a journal (`History.Journal`). The public contracts of `create`, `open`, `next`, `append` and of drafts cite these.
-- Read RecordForm, Headers and Payloads, which are the form; then Standing, which joins them; then Creating, Opening, NextEntries and Appending, one for each call. Drafts says what the calls do that write a file whole.
-- ReadingLaws says what they come to: a file that is opened and read to its end gives exactly what it stands for, whenever a crash came. EntryLaws says what may be asked again of a book, and DraftLaws what a crash leaves over several calls that write a file whole. These are the contract of `file_laws`.
pub mod RecordForm
pub mod Headers
pub mod Payloads
pub mod Standing
pub mod Creating
pub mod Opening
pub mod NextEntries
pub mod Appending
pub mod Drafts
pub mod ReadingLaws
pub mod EntryLaws
pub mod DraftLaws
