-- What the text of one value says (RFC 5545, 3.3): dates and times, lengths, numbers, offsets, texts, stamps, periods and rules; and where a text that says nothing goes wrong.
-- Given: octets; of stamps and periods a whole line and the names of zones. No component and no zone's table is known here.
-- Each function is the answer for its value. Read in this order: LocalTimes (a local time as a number), ValueTexts (single values), UtcTexts (the one form that names a
-- moment by itself), StampTexts (what a line with its parameters has), RuleTexts (rules). Then BadValues says where a bad one is bad, and RuleTrial how that is tried for rules.
pub mod LocalTimes
pub mod ValueTexts
pub mod UtcTexts
pub mod StampTexts
pub mod RuleTexts
pub mod BadValues
pub mod RuleTrial
