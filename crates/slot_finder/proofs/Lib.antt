mod Comparisons
mod RunsBehind
mod Guessing
mod Fitting
mod Passing
mod FreeSeconds
mod Searching
mod Stretches
mod Picking
mod Examples
pub mod OrderedRuns
pub mod FreeTimeLaws
