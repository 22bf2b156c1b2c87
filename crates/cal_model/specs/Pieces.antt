-- The rows of objects that are kept ready, as pieces: what a list of pieces by age has, what is found in it, and what of it goes.
-- Given: rows and windows. No standard speaks of pieces; no reply depends on which of them are kept. Read PieceLists first.
pub mod PieceLists
pub mod KeptPieces
