-- The calendar data that is shown of an object (RFC 4791, 9.6).
-- Given: its octets, the object, some rows of it, what is selected, and the zone in which floating times are read.
-- ShownData is the answer: the stored octets, or the printed text of what expansion or limits, and then picks, leave of the tree. Read before it: Picks (comp and prop),
-- RowLines (lines with the values of a row), Expansion (expand), LimitedSets (the two limits). EnoughRows says which rows are enough for it.
pub mod Picks
pub mod RowLines
pub mod Expansion
pub mod LimitedSets
pub mod ShownData
pub mod EnoughRows
