-- What the carrying of a journal over to other users promises. Read first Renumbering: what an entry is for the new users, and what a home is. Then MovedStates: when two states have the same homes. Migrations says of each end when it comes, and Stops what a stop leaves.
-- Carrying and Writing are for the functions.
pub mod Renumbering
pub mod MovedStates
pub mod Migrations
pub mod Stops
pub mod Carrying
pub mod Writing
