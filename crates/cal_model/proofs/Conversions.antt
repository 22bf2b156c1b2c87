-- What the conversions of this crate rest on: the stretches between onsets, and spans that are made of them.
pub mod StretchLemmas
pub mod SpanLemmas
pub mod ZonesAtHandLemmas
