-- Conversions meet the standard's words, in whichever order onsets are looked at.
-- For the crates to come: ZoneTableLaws for the one that makes a table (`changes-is` takes any list in order with the latest change at each instant; `before-table_over`; `IsTable-table_of`), NearTimes for those that make rows.
pub mod Onsets
pub mod Instants
pub mod ZoneTableLaws
pub mod NearTimes
pub mod ConversionLaws
