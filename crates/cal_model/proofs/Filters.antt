-- A match depends on no other rows than those that can meet a range of the filter: MatchingLaws (`matches-enough_rows`), which waits for filter_eval and dav_reports.
-- FilterLemmas takes the folds over filters and trees one level down, for it and for worked examples.
pub mod FilterLemmas
pub mod MatchingLaws
