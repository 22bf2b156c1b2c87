-- What a store keeps, as contracts see it, and what holds of it. KeptCalendars and Kept are read first: they say which state is kept. UidHolders says which object has a UID.
-- The others are for the crate's own functions: Objects and Calendars say what holds of a calendar that is kept, Settings what settings make of its properties, Homes what changes make of homes, and Following what an entry of the journal makes of the home that it is of.
pub mod KeptCalendars
pub mod Kept
pub mod UidHolders
pub mod Objects
pub mod Settings
pub mod Calendars
pub mod Homes
pub mod Following
pub mod Stores
