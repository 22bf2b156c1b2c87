-- Where offsets are below a day, rows, alarms and ranges lie near the window of the row.
-- For the crates to come: NearRanges for those that look for rows near a range, WindowLaws and WindowStretches for the one that makes the rows of a window.
pub mod RowBounds
pub mod NearRows
pub mod NearRanges
pub mod WindowLaws
pub mod WindowStretches
pub mod MovedWindows
