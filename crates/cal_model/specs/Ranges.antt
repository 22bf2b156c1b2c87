-- Which rows, alarms and dates a range meets (RFC 4791, 9.9), and how far from its start a row can be met.
-- Given: rows. Overlap is the rule; Nearness and Cost are bounds that bodies rest on and say nothing of any answer.
pub mod Overlap
pub mod RowRanges
pub mod Nearness
pub mod Cost
