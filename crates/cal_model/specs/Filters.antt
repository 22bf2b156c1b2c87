-- Whether an object matches a filter (RFC 4791, 9.7 and 9.9).
-- Given: the filter, an object, some rows of it, and the zone in which floating times are read. Matching is the answer; its `matches_object` gives it all rows.
-- Read before it: TextTests (text-match, param-filter), DateProperties (the dates that a range in a prop-filter is tested on), ComponentRanges (which components and
-- alarms pass a range).
pub mod TextTests
pub mod DateProperties
pub mod ComponentRanges
pub mod Matching
