-- Heads, bodies in chunks and streams: the laws that Streams states, and the steps of a reader that is fed pieces.
pub mod StreamFronts
pub mod StreamHeads
pub mod HeadLaws
pub mod CutPlaces
pub mod ChunkFronts
pub mod ChunkLines
pub mod ChunkBodies
pub mod ChunkSteps
pub mod FrontLaws
pub mod ChunkReading
pub mod ChunkEnds
pub mod ReadingLaws
