-- The walk of a rule's recurrence set (RFC 5545, 3.3.10 and 3.8.5.3): what a walk still gives from a place on, and how many moments it may still take from the rule.
-- Given: a rule, a start and the clock beside which it is written. Clocks is read first. What the set is stands in `Recurrence/RecurrenceSet`; these are the words of the bodies that give it one moment at a time.
pub mod Clocks
pub mod KeptMoments
pub mod Cursors
pub mod DayTimes
pub mod Places
pub mod SetPlaces
pub mod PickedRest
pub mod Budgets
