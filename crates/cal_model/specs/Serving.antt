-- What a request does and what is answered (RFC 9110, 9; RFC 4918, 9; RFC 4791, 5.3 and 7; RFC 3744, 8.1).
-- Given: the users, a state, and an event: a typed request with who makes it and when. EventReplies is the answer: `reply_to` and `state_after`. Read before it: ReportReplies (the three reports, over all rows of each object), ReadingReplies
-- (requests that only read), SeenResources (what is seen at a path, for who walks a store), Outcomes (accepted with a status and a state, or unchanged with a reply). No window, piece, worker or lock occurs, and no 503. ServingLaws says what holds of every outcome.
pub mod ReportReplies
pub mod ReadingReplies
pub mod SeenResources
pub mod Outcomes
pub mod EventReplies
pub mod ServingLaws
