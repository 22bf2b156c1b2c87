-- What contracts see of lists, maps and room.
-- Given: nothing.
pub mod Reserved
pub mod NameMap
pub mod NameMapLends
pub mod SharedLends
