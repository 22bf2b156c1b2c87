-- The instances of an object as rows (RFC 5545, 3.2.13, 3.8.4.4 and 3.8.5): starts and ends of each component, overrides put in, later instances that they move, order, windows.
-- Given: an object and the list of moments over which rules are taken. One list of all rows; a window is a filter.
pub mod Alignment
pub mod Starts
pub mod Rows
pub mod HappensOnce
