-- What one line does to what is open, the first fault met from the front, and cuts outside double quotes.
pub mod NestingSteps
pub mod FaultsFromFront
pub mod QuotedCuts
