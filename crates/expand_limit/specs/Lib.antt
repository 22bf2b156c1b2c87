pub mod KeptParts
pub mod NamedPicks
pub mod BusyItems
pub mod ShownTexts
pub mod InstanceLines
pub mod Instances
pub mod SeenRows
