pub mod CleanTexts
mod WrittenParams
pub mod LineHeads
mod ItemTexts
mod ValueTexts
mod Outcomes
mod NewLines
