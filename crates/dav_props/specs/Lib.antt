pub mod Rows
pub mod Subjects
pub mod Contents
pub mod Answers
pub mod KeptTexts
pub mod SettingFaults
pub mod SettingChecks
pub mod Finding
