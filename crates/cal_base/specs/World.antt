-- What lies outside the program: what its traits promise, and what the implementations in memory hold.
-- Given: nothing. Outside is read first.
pub mod Outside
pub mod Adapter
pub mod Memory
