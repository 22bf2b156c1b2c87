-- Octets that the formats name, names without ASCII case, and texts that calls lend.
-- Given: nothing.
pub mod Octets
pub mod Text
pub mod LentTexts
