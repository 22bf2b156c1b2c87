pub mod FreeTimes
pub mod Fits
