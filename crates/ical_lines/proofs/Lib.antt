pub mod Folding
pub mod GrammarLaw
pub mod LineTexts
pub mod LogicalSteps
pub mod OpenLines
pub mod OwnTexts
pub mod PhysicalLines
pub mod Pieces
pub mod QuotedCuts
pub mod ReadBack
pub mod ReadingInOrder
mod PlaceSteps
