pub mod SlotTimes
pub mod SlotCalendars
pub mod SlotAnswers
