-- A map in pages.
pub mod Pages
pub mod Places
