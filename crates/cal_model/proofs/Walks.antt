-- A walk gives the set: what is kept from a place on, one moment at a time, and how many moments were taken from the rule.
pub mod KeptLemmas
pub mod PickLemmas
pub mod WantedLemmas
pub mod BeginLemmas
pub mod BudgetLemmas
pub mod DayCounts
pub mod PlaceLemmas
pub mod DayTimeLemmas
pub mod DayLemmas
pub mod PeriodEnds
pub mod StepOverLemmas
pub mod SetPlaceLemmas
