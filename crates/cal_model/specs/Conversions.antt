-- The words of the contracts of `zone_time`, `local_span`, `local_times` and `zones_at_hand`, the bodies that convert in a zone (RFC 5545, 3.3.5 and 3.6.5).
-- Given: a table. What a local time and its instant are stands in `TimeZones/Zones`, which knows none of these.
pub mod Stretches
pub mod LocalSpans
pub mod ZonesAtHand
