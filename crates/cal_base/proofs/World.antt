-- What several calls on a stream do one after the other.
pub mod Taking
