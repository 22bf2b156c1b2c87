pub mod Answers
pub mod Listings
pub mod NearRows
pub mod RowTexts
