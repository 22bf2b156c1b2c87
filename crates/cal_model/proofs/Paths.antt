-- Paths written and read back.
pub mod PathLaws
pub mod NamedPaths
