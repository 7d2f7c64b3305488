-- Runs of steps, how they end.
pub mod PlainSymbols
pub mod Traces
pub mod Follows
pub mod RunTerms
pub mod RunFormulas
pub mod RunEntries
pub mod Reaching
pub mod Stops
