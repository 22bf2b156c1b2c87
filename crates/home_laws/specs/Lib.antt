-- The laws of homes. Homes says what one request and one journal have to do with a home; LoneSessions, which builds on it, what follows for a session beside others.
pub mod Homes
pub mod LoneSessions
