pub mod Sightings
pub mod Walks
pub mod Scenes
pub mod SharedReplies
