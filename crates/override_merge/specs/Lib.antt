pub mod Conversions
pub mod AlignedStamps
pub mod NamedStarts
pub mod DayStarts
pub mod Parts
pub mod IdStarts
pub mod ExpandableComponents
