-- What is shown depends on no other rows than those that overlap: ShownDataLaws (`shown-enough_rows`), which waits for dav_reports.
-- PickLaws (a selection that says nothing, and picks that keep all) waits for expand_limit.
pub mod PickLaws
pub mod ShownDataLaws
