-- What a walk over the objects of a calendar shows (RFC 4791, 4.1 and 5.3).
pub mod WalkedObjects
