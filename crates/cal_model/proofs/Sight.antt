-- Laws of sight: two states that look alike to a user are seen alike, so each request which only reads has one reply in both. For the book, whose reading answers rest on them.
pub mod LookingAlikeLaws
pub mod ViewLaws
pub mod HiddenLaws
pub mod SceneLaws
pub mod CalendarSights
