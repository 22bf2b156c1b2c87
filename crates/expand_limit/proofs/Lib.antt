mod ListSteps
mod JoinedItems
mod KeptLemmas
mod ShownParts
mod PrintedParts
mod NamedValues
mod PickLemmas
mod KeptBuilding
mod MadeLines
mod OtherParts
mod InstanceParts
mod LineCases
pub mod ShownRows
mod SeenParts
mod LeftParts
mod ShownTrees
