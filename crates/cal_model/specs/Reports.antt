-- What a report rests on beside the objects themselves (RFC 4791, 7.3, 7.8 to 7.10 and 9.8).
-- Given: the request, and an object. Each of the three is an answer: FloatingZone the zone in which floating times are read, NamedRanges the ranges that the report names,
-- NeededWindows the windows of 64 days whose rows it may need. The standards know no windows: they bound the work of a report, and that no answer changes by them is proved.
pub mod FloatingZone
pub mod NamedRanges
pub mod NeededWindows
