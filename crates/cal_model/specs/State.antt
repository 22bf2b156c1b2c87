-- What the server holds and what a change makes of it (RFC 4791, 4.2, 5.2 and 5.3; RFC 4918, 9; RFC 3744, 8.1).
-- Given: the users and groups, and changes. ServerState is what is held, Changes what a change does to it and what it costs; these two are the answer. Read PropertyTexts before them; how settings change a calendar is `Properties.Settings`.
-- UserNames says of users and groups that their names tell them apart. StoredData and SoundStates are for the crates that keep a state: what a store shows, and what holds of each state that is reached; NameWalks how a store's names are gone over one after another.
pub mod PropertyTexts
pub mod ServerState
pub mod UserNames
pub mod Changes
pub mod StoredData
pub mod SoundStates
pub mod NameWalks
