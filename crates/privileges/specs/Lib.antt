pub mod LineCuts
pub mod Marks
pub mod KnownUsers
pub mod LineReading
pub mod ShownUsers
