-- Laws of the module `view`.
pub mod ApartLaws
