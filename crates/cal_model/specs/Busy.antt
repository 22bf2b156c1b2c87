-- When a calendar is busy, and how a query for that is answered (RFC 4791, 7.10; RFC 5545, 3.6.4 and 3.8.2.6).
-- Given: objects with all their rows, the zone in which floating times are read, and a range.
-- Read in this order: BusyTimes (the times of one object, each with its class), BusyRuns (the class of each second and the runs; its `calendar_runs` is the answer),
-- FreeBusyText (the runs as a text).
pub mod BusyTimes
pub mod BusyRuns
pub mod FreeBusyText
