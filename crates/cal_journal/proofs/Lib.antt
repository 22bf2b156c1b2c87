pub mod OwnChanges
pub mod ReplaySteps
