-- The windows that a report may need are enough: ReportLaws (`matches-looked_at`, `shown-looked_at`, `names-query`, `names-multiget`), which waits for dav_reports.
-- OverrideWindows is its step.
pub mod OverrideWindows
pub mod ReportLaws
