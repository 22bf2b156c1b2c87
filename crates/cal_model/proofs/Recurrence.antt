-- Passing moments day by day and period by period; sets that are cut at periods.
-- For the crates to come: Days, Periods, Rising and DateFields for those that find the next moment (by days, and by periods); RecurrenceSetLemmas and SetStretches for the one that makes the starts of a window.
pub mod Days
pub mod DayTimes
pub mod Periods
pub mod Rising
pub mod RecurrenceSetLemmas
pub mod SetStretches
pub mod DateFields
