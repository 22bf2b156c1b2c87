-- Which local moments a rule gives (RFC 5545, 3.3.10 and 3.8.5.3): whether one passes, the next one that does, and the set.
-- Given: a rule and a start. Moments are local; a zone comes in only as the question whether a moment exists. RuleBounds is what holds of each rule that was read, and defines no moment.
pub mod RuleBounds
pub mod Passing
pub mod NextPassing
pub mod RecurrenceSet
