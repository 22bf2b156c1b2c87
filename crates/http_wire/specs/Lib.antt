pub mod Parts
pub mod BodyParts
pub mod HeadSearch
pub mod FieldMaps
pub mod FieldTexts
pub mod HeadReading
pub mod WireStates
pub mod Wires
