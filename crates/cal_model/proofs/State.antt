-- Laws of states: names stay in order, and each accepted change keeps what holds of states that are reached. For the store and the book.
pub mod OrderLaws
pub mod TextOrder
pub mod SoundLaws
pub mod NameWalkLaws
