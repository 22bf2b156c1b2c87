pub mod TagPieces
pub mod DepthWords
pub mod RootContents
pub mod ReadRequests
