pub mod BadPlace
pub mod Calendar
pub mod LengthPieces
pub mod LengthTexts
pub mod Stops
pub mod Texts
