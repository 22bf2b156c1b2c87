-- Why a request is refused, in order (RFC 9110, 13.1; RFC 4918, 16; RFC 3744, 7.1.1; RFC 4791, 5.3.1.1, 5.3.2.1 and 7.8).
-- Given: a request, and what it finds. SharedRefusals is one table for all methods; ChangeRefusals has the rows of each method that changes something, and ReportRefusals those of reports, which come behind it. Each table is read from its top: a row is a condition and a reply.
-- Read before them: RequestLimits (the numbers), RefusalReplies (a refusal as a reply), Preconditions (what the octets of a PUT have to meet).
pub mod RequestLimits
pub mod RefusalReplies
pub mod Preconditions
pub mod SharedRefusals
pub mod ChangeRefusals
pub mod ReportRefusals
