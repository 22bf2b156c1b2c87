-- What the private functions promise one another, on the way to the public contracts, which cite none of it.
-- Given: the disk (Disks) and the file (Files). WriteRuns and Committing are for appending, Drafting for a file that is written whole; HeaderSteps for making and opening; RecordSteps and Decoding for reading.
pub mod WriteRuns
pub mod Committing
pub mod Drafting
pub mod HeaderSteps
pub mod RecordSteps
pub mod Decoding
