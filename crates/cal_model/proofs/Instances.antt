-- Rows stand in order, and none is lost between windows.
-- For the crates above: RowsInOrder, MergedParts and LeastStarts for the one that puts overrides in (`parts_apart` of any rising list of starts), DayLaws for those that compare local days, EveryRow for what holds of each row, KeptStarts for the one that makes the rows of a window, ServedStarts for reports (`is_stated-row` is what their laws ask of each row).
pub mod EachRowLemmas
pub mod DayLaws
pub mod RisingLists
pub mod SortedNumbers
pub mod GovernedRows
pub mod RowsInOrder
pub mod MergedParts
pub mod LeastStarts
pub mod EveryRow
pub mod KeptStarts
pub mod ServedStarts
