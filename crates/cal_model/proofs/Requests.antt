-- Each request that is asked for can be booked.
pub mod ContentParts
pub mod SuitedContents
pub mod BookableLaws
