pub mod Lists
pub mod Texts
pub mod World
pub mod Lines
pub mod Xml
