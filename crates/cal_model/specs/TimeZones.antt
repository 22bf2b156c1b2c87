-- What a time zone does (RFC 5545, 3.6.5 and 3.3.5): the offset at an instant, the instant of a local time, and the table that its parts make.
-- Given: a table, or the parts of a VTIMEZONE. Zones is read first.
pub mod Zones
pub mod ZoneOnsets
pub mod TableBounds
