pub mod AnswerLaws
pub mod LineExamples
pub mod LineSteps
pub mod LookedRows
pub mod NearRowLaws
pub mod StatedWindows
