pub mod BodyLemmas
pub mod CalendarLaws
pub mod CountLemmas
pub mod DateLemmas
pub mod DateTimeLemmas
pub mod DigitLemmas
mod Examples
pub mod Fronts
pub mod JiffCalendar
pub mod LengthLemmas
pub mod NumberLemmas
pub mod OffsetLemmas
pub mod PartLemmas
pub mod StopsLemmas
pub mod TimeLemmas
