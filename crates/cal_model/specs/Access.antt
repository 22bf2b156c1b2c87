-- Who may do what with a calendar (RFC 3744, 3, 5.3 and 5.5; RFC 4791, 6.1.1).
-- Given: the grants of the calendar, the number of its owner, and who asks: the number of a user and the numbers of the groups that the user is in.
-- Privileges is the whole: bits, names and what each grants, and what is held (`privileges_held` is the answer). What is seen by it stands in `Sight`.
pub mod Privileges
