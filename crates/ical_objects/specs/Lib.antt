pub mod Building
pub mod Faults
pub mod Printing
