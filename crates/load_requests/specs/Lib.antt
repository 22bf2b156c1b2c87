-- What the octets of a session of `load` ask for.
pub mod DrawnEvents
pub mod EventTexts
pub mod Meanings
pub mod MeantRequests
pub mod NumberedUsers
pub mod WrittenRequests
