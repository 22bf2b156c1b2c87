-- What contents that are read have in common: whom they grant to, how much they list, and that a report is sound.
pub mod GrantLaws
pub mod ElementSizes
pub mod BodySizes
pub mod AclSizes
pub mod SoundReportLaws
