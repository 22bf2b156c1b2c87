-- The date of a moment by the one calendar is the one that httpdate writes, for `date_value`.
pub mod DateLemmas
