-- What a user can see of a state (RFC 3744, 3 and 5.4; RFC 4791, 6.1.1), and when two states look alike to a user.
-- Given: a state and the number of a user. Views is the answer: the visible calendars, each with what the privileges held show. Resources and Scenes say what a request finds there.
-- LookingAlike says the same of two states without a word of views; SightLaws says that the two agree, and that no request which only reads tells states apart that look alike.
pub mod Views
pub mod LookingAlike
pub mod Resources
pub mod Scenes
pub mod SightLaws
