-- What is told of requests that change something. Checks has what the public contract says. The others are for the crate's own functions: Passed has what is known once no shared row refuses,
-- Places the calendar and the object that are there, Rows the rows of each method as they are looked at, and OwnChecks what these make of a request.
pub mod Checks
pub mod Passed
pub mod Places
pub mod Rows
pub mod OwnChecks
