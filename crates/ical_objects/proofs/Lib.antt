pub mod ComponentLines
pub mod BuiltTrees
pub mod PrintedTrees
pub mod CleanTexts
pub mod BuildSteps
pub mod Printed
