-- Content lines and component trees (RFC 5545, 3.1, 3.4 and 3.6), read and written.
-- Given: octets. LineGrammar is the standard's own grammar, tied to the definitions that compute. UnquotedParts is for the contracts of bodies alone.
pub mod ContentLines
pub mod UnquotedParts
pub mod WrittenLines
pub mod ComponentTrees
pub mod LineGrammar
pub mod Nesting
