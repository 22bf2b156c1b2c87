-- What the command `load` prints. It is this project's own and stands in no standard.
-- Given: how many events each session puts, and how many sessions there are. LoadSummary is the answer; read LoadRequests (what is asked) before it.
pub mod LoadRequests
pub mod LoadSummary
