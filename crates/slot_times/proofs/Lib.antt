mod SlotFound
mod SlotLaws
mod SlotPaths
mod SlotRuns
mod SlotSeen
mod SlotTexts
