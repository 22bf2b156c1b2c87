-- What a view of a store shows, and what holds of it.
pub mod ShownStates
pub mod Views
